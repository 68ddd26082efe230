-- An item (m, p) of Stockmeyer's lists. A size, or an outer size, of document 01 is an item too: m is its height and p its width.
use Rattle.std.specs.Prelude.{ℕ}

pub record Item : Type 0 where
  pub m : ℕ
  pub p : ℕ

abbrev pub size : ℕ → ℕ → Item
size h w = record { m = h; p = w }

abbrev pub height : Item → ℕ
height z = z.m

abbrev pub width : Item → ℕ
width z = z.p
