-- A size stands in words as its height and its width.
-- What stands at a place after words that are dropped stands so much further on in the whole.
use mathlib.Core.Path.{◌≡◌, sym, ap, ap₂, ◌∙◌}
use mathlib.Core.List.{List}
use Prim.Native.Nat.{ℕ, ◌+◌}
use native.Mathlib.Nat.{add-zero}
use lib.ListN.{get_or, drop}
use lib.Seq.{get_or-drop}
use Rattle.slicing.specs.Item.{size}
use Rattle.facewords.specs.Words.{size_in_words}

pub size_in_words_at : (words : List ℕ) (at : ℕ) → size (get_or words at 0) (get_or words (at + 1) 0) ≡ size_in_words (drop at words)
size_in_words_at words at =
    sym
    (ap₂ size (get_or-drop at words 0 0 ∙ ap (λ (n : ℕ). get_or words n 0) (add-zero at)) (get_or-drop at words 1 0))
