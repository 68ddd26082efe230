-- What the iterator over the entries of words gives. No public contract cites it.
use Rattle.std.specs.Prelude.{◌≡◌, List, [], ℕ, drop, Option, Some, None}
use Rattle.slicing.specs.Tree.{Tree}
use Rattle.facefile.specs.inside.Entries.{JoinNext}
use Rattle.facewords.specs.inside.Entries.{WordRun, GaugeNext}
use Rattle.facewords.specs.declared.entry.Entry.{Entry}
use Rattle.facewords.specs.declared.entry.Entry.TheVariants.{Gauge, Join}
use Rattle.facewords.specs.declared.entry.Entries.{Entries}

-- The words that are left of the iterator's.
abbrev pub rest_of : Entries → List ℕ
rest_of s = drop s.at s.words.now

-- What comes where these words are left, with the parts of the stack, and what is left after it.
abbrev pub Next : List ℕ → Tree → List Tree → List ℕ → Option Entry → List ℕ → Type 0
Next words face stack rest None behind = rest ≡ []
Next words face stack rest (Some (Gauge sizes)) behind = GaugeNext words face stack sizes.now behind
Next words face stack rest (Some (Join kind)) behind = JoinNext (WordRun words face) stack rest kind behind

-- The entry is what comes in all words of which these are left.
unfoldable pub Gives : Entries → Option Entry → Entries → Type 0
Gives s r t = (words : List ℕ) (face : Tree) (stack : List Tree) → WordRun words face (rest_of s) stack → Next words face stack (rest_of s) r (rest_of t)
