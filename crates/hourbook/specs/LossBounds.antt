-- That a region under losses keeps its limits. Assumes nothing. It stands here, since the law of an impl can cite
-- nothing in proofs/.
use Rattle.std.specs.Prelude.{◌≡◌, ℕ, zero, suc, List, [], ◌∷◌, length, ℤ, pos, negsuc, Some, All, refl}
use Rattle.std.proofs.Common.{ap, subst, arith}
use Rattle.std.specs.List.{slice_get}
use Rattle.std.proofs.lemmas.List.Elements.{All-nil, All-cons, All-head, All-tail}
use Rattle.std.proofs.lemmas.Int.{ints}
use Rattle.hourbook.specs.declared.region.rows.Line.{Line}
use Rattle.hourbook.specs.Meaning.{Meaning, Bounded, LineBounded, Toward}
use Rattle.hourbook.specs.LossRule.{shrink, drained, lossy, lessen, losses_means}

pub length-lessen : (ps : List ℕ) (xs : List Line) → length (lessen ps xs) ≡ length xs
length-lessen ps [] = refl
length-lessen [] (x ∷ xs) = ap suc (length-lessen [] xs)
length-lessen (p ∷ ps) (x ∷ xs) = ap suc (length-lessen ps xs)

pub toward_shrink : (z m : ℤ) (n : ℕ) → Toward z m → Toward z (shrink m n)
toward_shrink (pos a) (pos b) n h = (omega (arith, ints), omega (arith, ints))
toward_shrink (pos a) (negsuc b) n h = (omega (arith, ints), omega (arith, ints))
toward_shrink (negsuc a) (pos b) n h = (omega (arith, ints), omega (arith, ints))
toward_shrink (negsuc a) (negsuc b) n h = (omega (arith, ints), omega (arith, ints))

line_lossy : (loss : ℕ) (l : Line) → LineBounded l → LineBounded (lossy loss l)
line_lossy loss l h = record { near = h.near; far = h.far; spread = toward_shrink _ l.spread (drained loss l) h.spread; flow = h.flow }

-- what a loss keeps of a line, losses keep of every line
pub All-lessen : (P : Line → Type 0) (ps : List ℕ) (xs : List Line) → ((p : ℕ) (x : Line) → P x → P (lossy p x)) → All P xs → All P (lessen ps xs)
All-lessen P ps [] f h = All-nil P
All-lessen P [] (x ∷ xs) f h = All-cons P _ _ (f 0 x (All-head P x xs h)) (All-lessen P [] xs f (All-tail P x xs h))
All-lessen P (p ∷ ps) (x ∷ xs) f h = All-cons P _ _ (f p x (All-head P x xs h)) (All-lessen P ps xs f (All-tail P x xs h))

-- the same by place
pub nth-lessen : (P : Line → Type 0) (ps : List ℕ) (xs : List Line) → ((p : ℕ) (x : Line) → P x → P (lossy p x)) → ((k : ℕ) (l : Line) → slice_get xs k ≡ Some l → P l) → (k : ℕ) (l : Line) → slice_get (lessen ps xs) k ≡ Some l → P l
nth-lessen P ps [] f h k l e = h k l e
nth-lessen P [] (x ∷ xs) f h zero l e = let same : lossy 0 x ≡ l = cc in subst P same (f 0 x (h 0 x refl))
nth-lessen P [] (x ∷ xs) f h (suc k) l e = nth-lessen P [] xs f (λ j m i. h (suc j) m i) k l e
nth-lessen P (p ∷ ps) (x ∷ xs) f h zero l e = let same : lossy p x ≡ l = cc in subst P same (f p x (h 0 x refl))
nth-lessen P (p ∷ ps) (x ∷ xs) f h (suc k) l e = nth-lessen P ps xs f (λ j m i. h (suc j) m i) k l e

pub losses_bounded : (ps : List ℕ) (m : Meaning) → Bounded m → Bounded (losses_means ps m)
losses_bounded ps m h = record {
  few_zones = h.few_zones;
  few_lines = omega (arith, length-lessen ps m.lines, h.few_lines);
  each_zone = h.each_zone;
  each_line = All-lessen LineBounded ps m.lines line_lossy h.each_line;
}
