-- What is left of memory from a place on, and what is written to it. Assumes nothing.
use Rattle.std.proofs.Common.{◌≡◌, ℕ, ◌+◌, ◌-◌, ◌≤◌, List, [], ◌∷◌, ◌++◌, length, get_or, length-set, take, drop, set, sym, ap, ◌∙◌, arith}
use Rattle.std.proofs.lemmas.List.{append-nil, drop-drop, drop_all, length-drop, take_all}
use borrow.Rule.Slice.PartMut.{put_mid}
use Rattle.sharing.proofs.Writing.{written_none, written-set}
use Rattle.sharing.specs.Writes.{written}

-- what is left of memory from place n on
pub rest_room : {Y : Type 0} (m : List Y) (n k : ℕ) → n + k ≤ length m → k ≤ length (take (length m - n) (drop n m))
rest_room m n k h =
    let len = length-drop n m in
    omega (arith, ap length (take_all (length m - n) (drop n m) (omega arith)))

-- a list written at the front of what is left of memory, seen in all of it
pub written_rest : {Y : Type 0} (m : List Y) (n : ℕ) (ys after : List Y) → n ≤ length m → after ≡ written (take (length m - n) (drop n m)) 0 ys → put_mid n (length m - n) m after ≡ written m n ys
written_rest m n ys after h e =
    let k : ℕ = length m - n in
    let len = length-drop n m in
    let same : take k (drop n m) ≡ drop n m = take_all k (drop n m) (omega arith) in
    let none : drop k (drop n m) ≡ [] = drop_all k (drop n m) (omega arith) in
    let place : n + (0 + length ys) ≡ n + length ys = omega arith in
    ap (λ l. take n m ++ (l ++ drop k (drop n m))) e
    ∙ (ap (λ l. take n m ++ ((ys ++ drop (0 + length ys) (take k (drop n m))) ++ l)) none
    ∙ ap (λ l. take n m ++ l) (append-nil (ys ++ drop (0 + length ys) (take k (drop n m)))
    ∙ (ap (λ l. ys ++ drop (0 + length ys) l) same
    ∙ (ap (λ l. ys ++ l) (drop-drop (0 + length ys) n m)
    ∙ ap (λ i. ys ++ drop i m) place))))

-- a list of one, and of two, written item by item
pub one_written : (m : List ℕ) (n : ℕ) (xs : List ℕ) → length xs ≡ 1 → n + length xs ≤ length m → set m n (get_or xs 0 0) ≡ written m n xs
one_written m n [] one h = absurd (omega arith)
one_written m n (x ∷ []) one h = sym (written_none (set m n x) (n + 1)) ∙ written-set m n x [] (omega arith)
one_written m n (x ∷ y ∷ xs) one h = absurd (omega arith)

pub two_written : (m : List ℕ) (n : ℕ) (xs : List ℕ) → length xs ≡ 2 → n + length xs ≤ length m → set (set m n (get_or xs 0 0)) (n + 1) (get_or xs 1 0) ≡ written m n xs
two_written m n [] two h = absurd (omega arith)
two_written m n (x ∷ []) two h = absurd (omega arith)
two_written m n (x ∷ y ∷ []) two h = one_written (set m n x) (n + 1) (y ∷ []) (omega arith) (omega (arith, length-set m n x)) ∙ written-set m n x (y ∷ []) (omega arith)
two_written m n (x ∷ y ∷ z ∷ xs) two h = absurd (omega arith)
