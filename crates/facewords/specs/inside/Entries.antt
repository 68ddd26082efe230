-- The entries of taken words in turn: what was read up to a place between two of them, and what comes next there. No public contract cites it.
pub mod Gives
use Rattle.std.specs.Prelude.{◌≡◌, List, ◌∷◌, ℕ}
use Rattle.slicing.specs.Item.{Item}
use Rattle.slicing.specs.Tree.{Tree, gauge}
use Rattle.slicing.specs.Good.{GoodGauge}
use Rattle.facefile.specs.inside.Entries.{Run}
use Rattle.writing.specs.Words.{list_words}
use Rattle.facewords.specs.Words.{word_rules, words_start, words_face}

-- The run of the entries in words.
abbrev pub WordRun : List ℕ → Tree → List ℕ → List Tree → Type 0
WordRun words face rest stack = Run (words_face words) word_rules (words_start words) face rest stack

-- The words are what is left somewhere between two entries of taken words.
abbrev pub Stands : List ℕ → Type 0
Stands rest = (words : List ℕ) × (face : Tree) × (stack : List Tree) × WordRun words face rest stack

-- A gauge comes, with the words of its sizes, and then these words are left.
pub record GaugeNext (words : List ℕ) (face : Tree) (stack : List Tree) (sizes behind : List ℕ) : Type 0 where
  pub items : List Item
  pub good : GoodGauge items
  pub same : sizes ≡ list_words items
  pub walk : WordRun words face behind (gauge items ∷ stack)
