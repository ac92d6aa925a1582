-- What a taker of bytes keeps to.
use Rattle.std.specs.Prelude.{ℕ, ◌+◌, List, ◌++◌, length}

pub record SinkLaws {S : Type 0} (has_room : S → ℕ → Type 0) (took : S → List ℕ → S → Type 0) : Type 0 where
  -- bytes taken one after the other are taken together
  pub joined : (a b c : S) (xs ys : List ℕ) → took a xs b → took b ys c → took a (xs ++ ys) c
  -- room for all is room for the first of them
  pub first : (a : S) (m n : ℕ) → has_room a (m + n) → has_room a m
  -- and once these are taken, for the rest
  pub rest : (a b : S) (xs : List ℕ) (n : ℕ) → has_room a (length xs + n) → took a xs b → has_room b n
