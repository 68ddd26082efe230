-- What adding a gauge or a join to the stored parts asks, and what the adding of a join leaves. No public contract cites it.
use Rattle.std.specs.Prelude.{◌≡◌, List, ℕ, ◌+◌, ◌*◌, ◌-◌, ◌≤◌, ◌<◌, length, get_or}
use Rattle.checks.specs.Limits.{most_rib, buffer_words}
use Rattle.slicing.specs.Item.{Item}
use Rattle.slicing.specs.Useful.{gauge_shapes}
use Rattle.slicing.specs.Tree.{Tree, gauge_count}
use Rattle.slicing.specs.Good.{Good}
use Rattle.entries.specs.inside.Kinds.{kind_of, Cut}
use Rattle.useful.specs.inside.Order.{order_word}
use Rattle.packed.specs.inside.Packed.{HasList}
use Rattle.stored.specs.inside.Store.{own_shapes, Entry}
use Rattle.stored.specs.inside.Filling.{Between, Added}

-- There is room for part e and for n items from the place `to` on.
pub record Room (s : List ℕ) (e to n : ℕ) : Type 0 where
  pub long : buffer_words ≤ length s
  pub part : e < 127
  pub from : 508 ≤ to
  pub items : to + n ≤ buffer_words

-- A list was packed so that it ends before the place `end`: it starts at `from`, and all words before it and from the end on are as they were.
pub record PackedBefore (s z : List ℕ) (from end : ℕ) (l : List Item) : Type 0 where
  pub list : HasList z from l
  pub to_end : from + length l ≡ end
  pub before : (i : ℕ) → i < from → get_or z i 0 ≡ get_or s i 0
  pub behind : (i : ℕ) → end ≤ i → get_or z i 0 ≡ get_or s i 0

-- A gauge was added as part e: of the places from `to` on, its useful sizes have the last before `end`, and the word that names them stands there.
pub record GaugeAdded (s z : List ℕ) (e to end : ℕ) (sizes : List Item) : Type 0 where
  pub from : ℕ
  pub low : to ≤ from
  pub to_end : from + length (gauge_shapes sizes) ≡ end
  pub added : Added s z e from 1 1 (gauge_shapes sizes)
  pub named : get_or z end 0 ≡ order_word sizes

-- The part before part e is the newer part b of a join with a gap, and the older part a is the one before all entries of b.
pub record JoinRoom (gap : ℕ) (s : List ℕ) (e to kind : ℕ) (cut : Tree → Tree → Tree) (a b : Tree) : Type 0 where
  pub narrow : gap ≤ most_rib
  pub is_cut : Cut kind cut
  pub room : Room s e to (length (own_shapes gap a) + length (own_shapes gap b))
  pub newer_before : 1 ≤ e
  pub older_before : 2 * gauge_count b ≤ e
  pub older : Entry s (e - 2 * gauge_count b) (kind_of a) (gauge_count a) (own_shapes gap a)
  pub newer : Entry s (e - 1) (kind_of b) (gauge_count b) (own_shapes gap b)
  pub older_between : Between gap s to (e - 2 * gauge_count b) a
  pub newer_between : Between gap s to (e - 1) b
  pub older_good : Good a
  pub newer_good : Good b
  pub few : gauge_count a + gauge_count b ≤ 64

-- The join of a and b was added as part e, and its list has so many items.
abbrev pub JoinAdded : (gap : ℕ) (s z : List ℕ) (e to kind count : ℕ) (cut : Tree → Tree → Tree) (a b : Tree) → Type 0
JoinAdded gap s z e to kind count cut a b =
    Added s z e to kind (gauge_count a + gauge_count b) (own_shapes gap (cut a b)) × (count ≡ length (own_shapes gap (cut a b)))
