-- Document 02, Paper 5: check 23, of the heights of a catalogue.
use Rattle.std.specs.Prelude.{Bool, true, ◌&&◌, List, [], ◌∷◌, ℕ, leb, length}
use Rattle.checks.specs.declared.Check.TheVariants.{Heights}
use Rattle.checks.specs.Limits.{most_heights}
use Rattle.checks.specs.Answer.{Asked, taken, ask}

-- After the height h: none is 0, and none is "more than the one before".
abbrev pub fall_from : ℕ → List ℕ → Bool
fall_from h [] = true
fall_from h (k ∷ heights) = leb 1 k && leb k h && fall_from k heights

-- From the first on, which has none before it.
abbrev pub fall : List ℕ → Bool
fall [] = true
fall (h ∷ heights) = leb 1 h && fall_from h heights

-- "23 when a height is 0, more than the one before, or past the 256th".
unfoldable pub heights_given : List ℕ → Asked
heights_given heights = ask (leb (length heights) most_heights && fall heights) Heights (taken tt)
