-- Moving the records in front of a list, not below a key, behind an open list, with every true p raised by q. No public contract cites it.
use Rattle.std.specs.Prelude.{◌≡◌, List, ◌∷◌, ◌++◌, map, ℕ, ◌≤◌, ◌<◌, length, get_or}
use Rattle.arena.specs.Arena.{level, m_word, adjust, back}
use Rattle.arena.specs.inside.Chain.{wrap, All, Away, Linked, trues, leaving, Same}
use Rattle.arena.specs.inside.Backs.{WayBack}
use Rattle.searching.specs.inside.Cut.{front, behind, Searchable}
use Rattle.splicing.specs.inside.Open.{OpenLinked, EndsOf}

-- The list rs of the head h, whose first record r is not below the key, and the open list cs of the head hc share nothing.
pub record Movable (a : List ℕ) (h hc key : ℕ) (cs : List ℕ) (r : ℕ) (rs ends : List ℕ) : Type 0 where
  pub list : Searchable a h (r ∷ rs)
  pub some : 1 ≤ key
  pub first : key ≤ m_word a r
  pub result : OpenLinked a hc cs
  pub result_ends : EndsOf a hc cs ends
  pub heads : h ≡ hc → ⊥
  pub head_away : Away h cs
  pub result_away : Away hc (r ∷ rs)
  pub apart : All (λ x. Away x (r ∷ rs)) cs
  pub end_fits : get_or ends 0 0 < 4_294_967_296

-- The records fr in front were moved, and back are left.
pub record Moved (a b : List ℕ) (h hc q : ℕ) (cs fr back ends' : List ℕ) : Type 0 where
  pub length_kept : length b ≡ length a
  pub list : Linked b h back
  pub result : OpenLinked b hc (cs ++ fr)
  pub result_ends : EndsOf b hc (cs ++ fr) ends'
  pub level_kept : (x : ℕ) → level b x ≡ level a x
  pub m_kept : (x : ℕ) → m_word b x ≡ m_word a x
  pub values : trues b (adjust b hc) (cs ++ fr) ≡ trues a (adjust a hc) cs ++ map (λ (t : ℕ). wrap t q) (trues a (adjust a h) fr)
  pub rest_values : trues b (adjust b h) back ≡ trues a (leaving a (adjust a h) fr) back
  pub result_sums : (k : ℕ) → k < 8 → adjust b hc k ≡ adjust a hc k
  pub outside : (x : ℕ) → (h ≡ x → ⊥) → (hc ≡ x → ⊥) → Away x cs → Away x fr → Same a b x

-- The records of rs in front, not below the key, were moved, and those behind are left.
abbrev pub MovedFront : (a b : List ℕ) (h hc key q : ℕ) (cs rs ends' : List ℕ) → Type 0
MovedFront a b h hc key q cs rs ends' = Moved a b h hc q cs (front a key rs) (behind a key rs) ends'

-- And the way back along both lists was kept: no back word but one of the records moved changed.
pub record Run (a b : List ℕ) (h hc key q : ℕ) (cs rs ends' : List ℕ) : Type 0 where
  pub moved : MovedFront a b h hc key q cs rs ends'
  pub backs_off : (x : ℕ) → Away x (front a key rs) → back b x ≡ back a x
  pub way_back : WayBack a b hc cs (front a key rs) (behind a key rs)

-- What moving a run asks, for some open list with these ends, and what it promises for any.
abbrev pub RunReady : (a : List ℕ) (h key : ℕ) (ends : List ℕ) → Type 0
RunReady a h key ends =
    (hc : ℕ) × (cs : List ℕ) × (r : ℕ) × (rs : List ℕ) × Movable a h hc key cs r rs ends

abbrev pub RunMoved : (a b : List ℕ) (h key q : ℕ) (ends ends' : List ℕ) → Type 0
RunMoved a b h key q ends ends' =
    (hc : ℕ) (cs : List ℕ) (r : ℕ) (rs : List ℕ) → Movable a h hc key cs r rs ends → Run a b h hc key q cs (r ∷ rs) ends'
