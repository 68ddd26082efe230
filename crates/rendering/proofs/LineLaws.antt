-- The fields of a line, appended in turn, are the line, and take as many bytes as it.
-- Each line is its fields joined.
use mathlib.Core.Path.{◌≡◌, ap, ◌∙◌}
use mathlib.Core.List.{List, ◌++◌}
use Prim.Native.Nat.{ℕ, ◌+◌}
use lib.ListN.{length, length-append}
use Rattle.text.specs.Fields.{space, newline, field, named}
use Rattle.text.specs.inside.Appending.{Appended}
use Rattle.text.proofs.Appends.{joined}
use Rattle.rendering.specs.Text.{best_word, gauge_word, size_word, at_word, item_line, best_line, gauge_line}

-- The length of three lists of bytes, and of four, joined.
length_three : (a b c : List ℕ) → length (a ++ (b ++ c)) ≡ length a + (length b + length c)
length_three a b c = length-append a (b ++ c) ∙ ap (λ (n : ℕ). length a + n) (length-append b c)

pub length_four : (a b c d : List ℕ) → length (a ++ (b ++ (c ++ d))) ≡ length a + (length b + (length c + length d))
length_four a b c d = length-append a (b ++ (c ++ d)) ∙ ap (λ (n : ℕ). length a + n) (length_three b c d)

pub item_length : (h w : ℕ) → length (item_line h w) ≡ length (field h space) + length (field w newline)
unfolding item_line
item_length h w = length-append (field h space) (field w newline)

pub item_line_written : (old : List ℕ) (at h w : ℕ) (mid : List ℕ) (next : ℕ) (new : List ℕ) (r : ℕ) → Appended old at (field h space) mid next → Appended mid next (field w newline) new r → Appended old at (item_line h w) new r
unfolding item_line
item_line_written old at h w mid next new r s t = joined s t

pub best_length : (h w area : ℕ) → length (best_line h w area) ≡ length (named best_word h space) + (length (field w space) + length (field area newline))
unfolding best_line
best_length h w area = length_three (named best_word h space) (field w space) (field area newline)

pub best_line_written : (old : List ℕ) (at h w area : ℕ) (l : List ℕ) (i : ℕ) (m : List ℕ) (j : ℕ) (new : List ℕ) (r : ℕ) → Appended old at (named best_word h space) l i → Appended l i (field w space) m j → Appended m j (field area newline) new r → Appended old at (best_line h w area) new r
unfolding best_line
best_line_written old at h w area l i m j new r s t u = joined s (joined t u)

pub gauge_length : (number size across up : ℕ) → length (gauge_line number size across up) ≡ length (named gauge_word number space) + (length (named size_word size space) + (length (named at_word across space) + length (field up newline)))
unfolding gauge_line
gauge_length number size across up =
    length_four (named gauge_word number space) (named size_word size space) (named at_word across space) (field up newline)

module _ (old l m n new : List ℕ) (at i j k r : ℕ) where
  pub gauge_line_written : (number size across up : ℕ) → Appended old at (named gauge_word number space) l i → Appended l i (named size_word size space) m j → Appended m j (named at_word across space) n k → Appended n k (field up newline) new r → Appended old at (gauge_line number size across up) new r
  unfolding gauge_line
  gauge_line_written number size across up s t u v = joined s (joined t (joined u v))
