-- Bytes written into memory.
use Rattle.std.specs.Prelude.{◌≡◌, ℕ, ◌+◌, ◌≤◌, List, length}
use Rattle.sharing.specs.Writes.{written}

-- the bytes bs were written from `at` up to `to`, and nothing else
pub record Wrote (before after : List ℕ) (at to : ℕ) (bs : List ℕ) : Type 0 where
  pub place : to ≡ at + length bs
  pub within : to ≤ length before
  pub memory : after ≡ written before at bs
