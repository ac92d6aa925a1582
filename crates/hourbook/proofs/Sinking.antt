-- A text on its way into a sink. Assumes nothing.
use Rattle.std.proofs.Common.{◌≡◌, ℕ, List, ◌++◌, length, refl, ◌∙◌, subst}
use Rattle.std.proofs.lemmas.List.{length-append, append_assoc}
use Rattle.hourbook.specs.Sinks.{SinkLaws}

-- what is done of the text was taken, and the rest, which finds room, is still to come
pub record Underway {S : Type 0} (has_room : S → ℕ → Type 0) (took : S → List ℕ → S → Type 0) (before now : S) (text rest : List ℕ) : Type 0 where
  pub done : List ℕ
  pub taken : took before done now
  pub whole : done ++ rest ≡ text
  pub room : has_room now (length rest)

module _ {S : Type 0} {has_room : S → ℕ → Type 0} {took : S → List ℕ → S → Type 0} (laws : SinkLaws has_room took) where
  -- room for the front of a text
  pub room_first : (a : S) (xs rest : List ℕ) → has_room a (length (xs ++ rest)) → has_room a (length xs)
  room_first a xs rest h = laws.first a (length xs) (length rest) (subst (has_room a) (length-append xs rest) h)

  pub room_rest : (a b : S) (xs rest : List ℕ) → has_room a (length (xs ++ rest)) → took a xs b → has_room b (length rest)
  room_rest a b xs rest h p =
      laws.rest a b xs (length rest) (subst (has_room a) (length-append xs rest) h) p

  pub begun : (a b : S) (xs rest : List ℕ) → has_room a (length (xs ++ rest)) → took a xs b → Underway has_room took a b (xs ++ rest) rest
  begun a b xs rest h p =
      record { done = xs; taken = p; whole = refl; room = room_rest a b xs rest h p }

  pub one_more : (a b c : S) (text xs rest : List ℕ) → Underway has_room took a b text (xs ++ rest) → took b xs c → Underway has_room took a c text rest
  one_more a b c text xs rest s p =
      record {
        done = s.done ++ xs;
        taken = laws.joined a b c s.done xs s.taken p;
        whole = append_assoc s.done xs rest ∙ s.whole;
        room = room_rest b c xs rest s.room p;
      }

  pub ended : (a b c : S) (text xs : List ℕ) → Underway has_room took a b text xs → took b xs c → took a text c
  ended a b c text xs s p =
      subst (λ t. took a t c) s.whole (laws.joined a b c s.done xs s.taken p)
