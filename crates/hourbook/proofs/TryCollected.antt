-- What `try_collect` gives after a `map` whose closure may fail, told of each item. Assumes nothing.
use Rattle.std.proofs.Common.{◌≡◌, ◌≤◌, ◌+◌, List, [], ◌∷◌, ◌++◌, map, length, Ok, None, Option, Result, Vec, vec_items, vec_len, vec_capacity, sym, ap, ◌∙◌, subst, append_assoc, append-nil}
use Rattle.std.specs.Fn.{Called}
use Rattle.std.specs.Iterator.{AlwaysYields, Yields, TryCollects}
use Rattle.std.specs.Iterator.Adapters.{map_source, map_callee}
use Rattle.std.specs.List.{FoldsTo}
use Rattle.std.specs.Result.{IfOk}
use Rattle.std.specs.declared.iter.Map.{Map}
use Rattle.std.proofs.lemmas.Iterator.{YieldsList, maps}
use Rattle.std.proofs.lemmas.List.{map-append}
use Rattle.std.proofs.lemmas.Result.{IfOk-weaker}
use denote.Param.Members.{Mut}

-- what the clauses of `try_collect` say of a Result and of a Vec
abbrev Settles : {X E : Type 0} → Result X E → Result X E → Type 0
Settles s r = r ≡ s

abbrev Collects : {X Z : Type 0} → List X → Vec X Z → Type 0
Collects xs v = (vec_items v ≡ xs) × (vec_len v ≡ length xs)

abbrev Extends : {X Z : Type 0} → Vec X Z → List X → Vec X Z → Type 0
Extends v xs w = (vec_items w ≡ vec_items v ++ xs) × (vec_len w ≡ vec_len v + length xs) × (vec_capacity v ≤ vec_capacity w)

module _ {S A B F X E Z T : Type 0} (steps : S → Option A → S → Type 0) (v : A → B) (g : Mut F (A × Unit {0}) (Result X E)) (told : X → T) (h : B → T) (f : F)
    (calls : (x : A) (r : Result X E) (q : F) → Called g f (x, tt) r q → (q ≡ f) × IfOk r (λ y. told y ≡ h (v x)))
  where
    each : (ys : List B) (s : Map S F) → map_callee s ≡ f → AlwaysYields steps v (map_source s) ys
        → (xs : List (Result X E)) (t u : Map S F) → Yields (maps steps g) s xs t → maps steps g t None u
        → (b w : Vec X Z) → FoldsTo (λ p x q. (y : X) × Settles x (Ok y) × Extends p (y ∷ []) q) b xs w
        → map told (vec_items w) ≡ map told (vec_items b) ++ map h ys
    each [] s a e [] t u y n b w c = ap (λ p. map told (vec_items p)) (sym c) ∙ sym (append-nil _)
    each [] s a e (x ∷ xs) t u y n b w c = absurd (e y.1.0 (map_source y.0) y.1.1)
    each (z ∷ ys) s a e [] t u y n b w c = absurd (e.0 (map_source u) (subst (λ m. steps (map_source m) None (map_source u)) (sym y) n.0))
    each (z ∷ ys) s a e (x ∷ xs) t u y n b w c =
        let call = calls y.1.0 x (map_callee y.0) (subst (λ q. Called g q (y.1.0, tt) x (map_callee y.0)) a y.1.2) in
        let item = e.1 y.1.0 (map_source y.0) y.1.1 in
        let is : told c.1.0 ≡ h (v y.1.0) = subst (λ r. IfOk r (λ o. told o ≡ h (v y.1.0))) (sym c.1.1) call.1 in
        let more = ap (map told) c.1.2.0 ∙ map-append told (vec_items b) (c.1.0 ∷ []) in
        each ys y.0 call.0 item.1 xs t u y.2 n c.0 w c.2
        ∙ (ap (λ l. l ++ map h ys) more
        ∙ (append_assoc (map told (vec_items b)) (told c.1.0 ∷ []) (map h ys)
        ∙ ap (λ o. map told (vec_items b) ++ (o ∷ map h ys)) (is ∙ ap h item.0)))

-- the source gives ys, as v reads its items, and the closure is f at every call
pub told_from_try_collect : {S A B F X E Z T D : Type 0} {steps : S → Option A → S → Type 0} {v : A → B} {g : Mut F (A × Unit {0}) (Result X E)} {f : F} {ys : List B} {s : Map S F} (told : X → T) (h : B → T) (r : Result (Vec X Z) D)
    → IfOk r (TryCollects (maps steps g) Settles Collects Extends s) → YieldsList steps v (map_source s) ys → map_callee s ≡ f
    → ((x : A) (r : Result X E) (q : F) → Called g f (x, tt) r q → (q ≡ f) × IfOk r (λ y. told y ≡ h (v x)))
    → IfOk r (λ w. map told (vec_items w) ≡ map h ys)
told_from_try_collect {steps} {v} {g} {f} {ys} {s} told h r ran e a calls =
    IfOk-weaker r (TryCollects (maps steps g) Settles Collects Extends s) (λ w. map told (vec_items w) ≡ map h ys)
    (λ w c. each steps v g told h f calls ys s a e.runs c.0 c.2.1.0 c.2.0 c.2.1.1 c.2.1.2 c.1 w c.4 ∙ ap (λ l. map told l ++ map h ys) c.3.0)
    ran
