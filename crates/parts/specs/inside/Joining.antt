-- Two parts of a stack joined: each is turned where it runs the other way, and the merge takes the older part's place. No public contract cites it.
use Rattle.std.specs.Prelude.{◌≡◌, Bool, cond, List, ℕ, ◌+◌, ◌≤◌, ◌<◌, length}
use Rattle.checks.specs.Limits.{buffer_words, most_sizes}
use Rattle.slicing.specs.Recorded.{Recorded, merge_recorded, turn_recorded}
use Rattle.entries.specs.inside.Kinds.{byte_of, across}
use Rattle.entries.specs.declared.kinds.Kind.{Kind}
use Rattle.arena.specs.inside.Chain.{Same}
use Rattle.parts.specs.inside.Part.{first_head, head_of, last_head, Part, Suits}

-- Whether a part of one kind runs the other way than a join of the other kind.
abbrev pub crosses : Kind → Kind → Bool
crosses part join = across (byte_of part) (byte_of join)

-- The list, or the list turned.
abbrev pub turned_if : Bool → List Recorded → List Recorded
turned_if t l = cond t (turn_recorded l) l

-- Records of the sizes are below the first head; the arena has them all.
pub record Ranged (a : List ℕ) (lo hi : ℕ) : Type 0 where
  pub long : buffer_words ≤ length a
  pub some : 1 ≤ lo
  pub upward : lo ≤ hi
  pub most : hi ≤ first_head

-- A part that can be turned to the head `spare`.
pub record Turns (levels a : List ℕ) (h spare lo hi : ℕ) (l : List Recorded) : Type 0 where
  pub ranged : Ranged a lo hi
  pub head_high : first_head ≤ h
  pub spare_high : first_head ≤ spare
  pub spare_low : spare ≤ last_head
  pub apart : spare ≡ h → ⊥
  pub few : length l ≤ most_sizes
  pub part : Part levels a h lo hi l

-- It was turned, where t says so, and r is then its head.
pub record Faces (levels a b : List ℕ) (h spare lo hi : ℕ) (l : List Recorded) (t : Bool) (r : ℕ) : Type 0 where
  pub length_kept : length b ≡ length a
  pub head : r ≡ cond t spare h
  pub part : Part levels b r lo hi (turned_if t l)
  pub outside : (x : ℕ) → (x ≡ spare → ⊥) → ((lo ≤ x) × (x < hi) → ⊥) → Same a b x

-- The parts at two places of the stack, which turned or not can be merged.
pub record Joinable (levels a : List ℕ) (place lo mid hi : ℕ) (l k : List Recorded) (s t : Bool) : Type 0 where
  pub low_place : place < 63
  pub older_range : Ranged a lo mid
  pub newer_range : Ranged a mid hi
  pub older : Part levels a (head_of place) lo mid l
  pub newer : Part levels a (head_of (place + 1)) mid hi k
  pub older_few : length l ≤ most_sizes
  pub newer_few : length k ≤ most_sizes
  pub older_suits : Suits (turned_if s l)
  pub newer_suits : Suits (turned_if t k)

-- They were joined, with a gap between them. Touched are the records of both, record 0 and heads that no part below them has.
pub record Joined (gap : ℕ) (levels a b : List ℕ) (place lo mid hi : ℕ) (l k : List Recorded) (s t : Bool) : Type 0 where
  pub length_kept : length b ≡ length a
  pub part : Part levels b (head_of place) lo hi (merge_recorded gap (turned_if s l) (turned_if t k))
  pub outside : (x : ℕ) → 1 ≤ x → (x < lo → Same a b x) × (first_head ≤ x → x < head_of place → Same a b x)
