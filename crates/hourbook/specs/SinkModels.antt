-- The two takers of bytes, and that they keep the laws.
use Rattle.std.specs.Prelude.{◌≡◌, ℕ, ◌+◌, ◌^◌, ◌-◌, ◌≤◌, min, List, ◌++◌, length, ⊤}
use Rattle.std.proofs.Common.{ap, ◌∙◌, arith}
use Rattle.std.proofs.lemmas.List.{length-append}
use Rattle.sharing.proofs.Writing.{length-written, written-append}
use Rattle.hourbook.specs.Sinks.{SinkLaws}
use Rattle.hourbook.specs.Wrote.{Wrote}
use Rattle.hourbook.specs.declared.book.sink.Count.{Count}
use Rattle.hourbook.specs.declared.book.sink.Page.{Page}

-- a count has room for any
abbrev pub counts_any : Count → ℕ → Type 0
counts_any c n = ⊤

-- the bytes were counted, up to the greatest count there is
abbrev pub Counted : Count → List ℕ → Count → Type 0
Counted before bs after = after.bytes ≡ min (before.bytes + length bs) (2 ^ 64 - 1)

pub count_laws : SinkLaws counts_any Counted
count_laws = record {
  joined = λ a b c xs ys p q. omega (arith, length-append xs ys);
  first = λ a m n h. tt;
  rest = λ a b xs n h p. tt;
}

-- so many bytes find room behind those that stand
abbrev pub fits : Page → ℕ → Type 0
fits p n = p.filled + n ≤ length p.memory.now

-- the bytes were written behind those that stood, into the same memory
pub record Filled (before : Page) (bs : List ℕ) (after : Page) : Type 0 where
  pub same : after.memory.ghost_name ≡ before.memory.ghost_name
  pub wrote : Wrote before.memory.now after.memory.now before.filled after.filled bs

-- one write after another
wrote_both : {a b c : List ℕ} {p q r : ℕ} {xs ys : List ℕ} → Wrote a b p q xs → Wrote b c q r ys → Wrote a c p r (xs ++ ys)
wrote_both {a} {b} {c} {p} {q} {r} {xs} {ys} f g =
    let l : length b ≡ length a = ap length f.memory ∙ length-written a p xs (omega (arith, f.place, f.within)) in
    record {
      place = omega (arith, f.place, g.place, length-append xs ys);
      within = omega (arith, g.within);
      memory = g.memory ∙ rw (f.memory, f.place) (written-append a p xs ys (omega (arith, f.place, f.within)));
    }

-- once some is filled, there is room for what is left
fits_rest : (a b : Page) (xs : List ℕ) (n : ℕ) → fits a (length xs + n) → Filled a xs b → fits b n
fits_rest a b xs n h p =
    let l : length b.memory.now ≡ length a.memory.now = ap length p.wrote.memory ∙ length-written a.memory.now a.filled xs (omega arith) in
    omega (arith, p.wrote.place)

pub page_laws : SinkLaws fits Filled
page_laws = record {
  joined = λ a b c xs ys p q. record { same = q.same ∙ p.same; wrote = wrote_both p.wrote q.wrote };
  first = λ a m n h. omega arith;
  rest = fits_rest;
}
