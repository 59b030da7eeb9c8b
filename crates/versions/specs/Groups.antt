-- Superseded versions in groups, as contracts see them.
use Rattle.std.specs.Prelude.{ℕ, List}
use Rattle.model.specs.Map.{Bytes}

-- a superseded version: its key, its number, and that of the commit that superseded it
pub record Listed : Type 0 where
  pub key : Bytes
  pub number : ℕ
  pub next : ℕ

-- A group: its pin, its superseded versions, and those of them that stand in unclassified lists. And how many of its
-- lists the pin sees whole, how many are garbage, and how many there are in all.
pub record GroupValue : Type 0 where
  pub pin : ℕ
  pub versions : List Listed
  pub unclassified : List Listed
  pub seen : ℕ
  pub garbage : ℕ
  pub lists : ℕ
