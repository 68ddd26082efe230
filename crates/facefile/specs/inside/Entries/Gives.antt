-- What the iterator over a file's entries gives. No public contract cites it.
use Rattle.std.specs.Prelude.{◌≡◌, List, [], ℕ, drop, Option, Some, None}
use Rattle.slicing.specs.Tree.{Tree}
use Rattle.facefile.specs.inside.Entries.{Walk, GaugeNext, JoinNext}
use Rattle.facefile.specs.declared.entry.Entry.{Entry}
use Rattle.facefile.specs.declared.entry.Entry.TheVariants.{Gauge, Join}
use Rattle.facefile.specs.declared.entry.Entries.{Entries}

-- The bytes that are left of the iterator's file.
abbrev pub rest_of : Entries → List ℕ
rest_of s = drop s.at s.file.now

-- What comes where these bytes are left of a file, with the parts of the stack, and what is left after it.
abbrev pub Next : List ℕ → Tree → List Tree → List ℕ → Option Entry → List ℕ → Type 0
Next file face stack rest None behind = rest ≡ []
Next file face stack rest (Some (Gauge sizes)) behind = GaugeNext file face stack rest sizes.now behind
Next file face stack rest (Some (Join kind)) behind = JoinNext (Walk file face) stack rest kind behind

-- The entry is what comes in every file of which these bytes are left.
unfoldable pub Gives : Entries → Option Entry → Entries → Type 0
Gives s r t = (file : List ℕ) (face : Tree) (stack : List Tree) → Walk file face (rest_of s) stack → Next file face stack (rest_of s) r (rest_of t)
