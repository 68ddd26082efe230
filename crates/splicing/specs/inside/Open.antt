-- An open list, the result of a merge while it grows: the forward k of its last record with link k is not set yet, and every other forward is right. How the front of a list is moved behind it, and how it is closed. No public contract cites it.
use Rattle.std.specs.Prelude.{◌≡◌, ℕ, ◌+◌, ◌<◌, ◌≤◌, List, ◌++◌, length, ◌≢◌, slice_index, slice_index_or}
use Rattle.arena.specs.Arena.{level, m_word, p_word, adjust, forward_at, adjust_at, forward, back_at}
use Rattle.arena.specs.Lazy.{next_with, last_with}
use Rattle.arena.specs.inside.Chain.{put, All, Away, growing, LinkedOf, Linked, Same}
use Rattle.arena.specs.inside.Backs.{BacksKept}
use Rattle.searching.specs.declared.search.Cut.{Cut}
use Rattle.splicing.specs.declared.ends.Ends.{Ends}

-- The records rs are the open list of the head h.
abbrev pub OpenLinked : List ℕ → ℕ → List ℕ → Type 0
OpenLinked = LinkedOf growing

-- The ends of the list rs of the head h: for each link k the last record with it.
pub record EndsOf (a : List ℕ) (h : ℕ) (rs ends : List ℕ) : Type 0 where
  pub long : 8 ≤ length ends
  pub at : (k : ℕ) → k < 8 → slice_index ends k ≡ last_with a k h rs

-- The sums of the last record with each link, and those at a cut, as the search found them.
abbrev pub last_sums : List ℕ → List ℕ → ℕ → ℕ
last_sums a last k = adjust a (slice_index last k) k

abbrev pub cut_sums : List ℕ → ℕ → ℕ
cut_sums sums k = slice_index sums k

-- The arena with forward k of x made that of y.
unfoldable pub pass_on : List ℕ → ℕ → ℕ → ℕ → List ℕ
pass_on a x y k = put a x (forward_at + k) (forward a y k)

-- The arena with the records of the head h up to `to` moved behind `from` at link k, and adjust k of h made v.
unfoldable pub relink_one : List ℕ → ℕ → ℕ → ℕ → ℕ → ℕ → List ℕ
unfolding pass_on
relink_one a h from to k v = put (pass_on (pass_on a from h k) h to k) h (adjust_at + k) v

-- And at link 0 the back word of the first of them made `from`.
unfoldable pub relink_lowest : List ℕ → ℕ → ℕ → ℕ → ℕ → List ℕ
relink_lowest a h from to v = put (relink_one a h from to 0 v) (forward a h 0) back_at from

-- The records front ++ back of the head h, the open list cs of the head hc, and where the front is to be cut off and put: front has the links below n.
pub record Relinkable (a : List ℕ) (h hc : ℕ) (cs front back cut sums ends : List ℕ) (n : ℕ) : Type 0 where
  pub list : Linked a h (front ++ back)
  pub result : OpenLinked a hc cs
  pub result_ends : EndsOf a hc cs ends
  pub heads : h ≡ hc → ⊥
  pub head_away : Away h cs
  pub result_away : Away hc (front ++ back)
  pub apart : All (λ r. Away r (front ++ back)) cs
  pub some : 1 ≤ n
  pub high : n ≤ 8
  pub with_link : (k : ℕ) → k < n → 1 ≤ next_with a k front
  pub lower : All (λ r. level a r ≤ n) front
  pub cut_long : n ≤ length cut
  pub cut_at : (k : ℕ) → k < n → slice_index cut k ≡ last_with a k h front
  pub sums_long : n ≤ length sums
  pub end_fits : slice_index_or ends 0 0 < 4_294_967_296

-- The front was moved, and ends' are the new ends of the open list.
pub record Relinked (a b : List ℕ) (h hc : ℕ) (cs front back cut sums ends ends' : List ℕ) (n : ℕ) : Type 0 where
  pub length_kept : length b ≡ length a
  pub list : Linked b h back
  pub result : OpenLinked b hc (cs ++ front)
  pub result_ends : EndsOf b hc (cs ++ front) ends'
  pub replaced : (k : ℕ) → k < n → slice_index ends' k ≡ slice_index cut k
  pub level_kept : (x : ℕ) → level b x ≡ level a x
  pub m_kept : (x : ℕ) → m_word b x ≡ m_word a x
  pub p_kept : (x : ℕ) → p_word b x ≡ p_word a x
  pub backs_kept : BacksKept a b
  pub adjust_kept : (x k : ℕ) → k < 8 → (x ≢ h) → adjust b x k ≡ adjust a x k
  pub adjust_head : (k : ℕ) → k < n → adjust b h k ≡ slice_index sums k
  pub adjust_above : (k : ℕ) → n ≤ k → k < 8 → adjust b h k ≡ adjust a h k
  pub outside : (x : ℕ) → (x ≢ h) → ((k : ℕ) → k < n → x ≢ slice_index ends k) → Same a b x

-- And then the back word of its first record became the last record of the open list before it. The arena `links` is that before.
pub record Spliced (a b : List ℕ) (h hc : ℕ) (cs front back cut sums ends ends' : List ℕ) (n : ℕ) : Type 0 where
  pub links : List ℕ
  pub relinked : Relinked a links h hc cs front back cut sums ends ends' n
  pub stored : b ≡ put links (forward a h 0) back_at (slice_index ends 0)

-- Such a front of the head h is there, whichever it is, and it is moved.
abbrev pub FrontReady : List ℕ → ℕ → Cut → Ends → Type 0
FrontReady a h cut ends =
    (hc : ℕ) × (cs : List ℕ) × (front : List ℕ) × (back : List ℕ) × Relinkable a h hc cs front back cut.lasts cut.adjusts ends.lasts cut.links

abbrev pub FrontMoved : (a b : List ℕ) (h : ℕ) (cut : Cut) (ends ends' : Ends) → Type 0
FrontMoved a b h cut ends ends' =
    (hc : ℕ) (cs front back : List ℕ) → Relinkable a h hc cs front back cut.lasts cut.adjusts ends.lasts cut.links → Spliced a b h hc cs front back cut.lasts cut.adjusts ends.lasts ends'.lasts cut.links

-- The open list was closed.
pub record Closed (a b : List ℕ) (h : ℕ) (cs ends : List ℕ) : Type 0 where
  pub length_kept : length b ≡ length a
  pub list : Linked b h cs
  pub level_kept : (x : ℕ) → level b x ≡ level a x
  pub m_kept : (x : ℕ) → m_word b x ≡ m_word a x
  pub p_kept : (x : ℕ) → p_word b x ≡ p_word a x
  pub backs_kept : BacksKept a b
  pub adjust_kept : (x k : ℕ) → k < 8 → adjust b x k ≡ adjust a x k
  pub outside : (x : ℕ) → ((k : ℕ) → k < 8 → x ≢ slice_index ends k) → Same a b x
