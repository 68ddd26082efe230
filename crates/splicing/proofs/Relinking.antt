-- What the loop that moves a front keeps: the links from the present one up are rewired, the ends from there up are those of the front, and so are the sums.
-- The records that a turn reads and writes are there from the start and are not one another, and no turn changes the length.
use Rattle.std.proofs.Common.{◌≡◌, ℕ, suc, ◌+◌, ◌-◌, ◌%◌, ◌^◌, ◌<◌, ◌≤◌, List, length, get_or, set, sym, refl, ap, ◌∙◌, subst, arith}
use Rattle.arena.specs.Arena.{word, forward, adjust, back_at}
use Rattle.arena.specs.inside.Chain.{Has, put}
use Rattle.arena.specs.inside.Sums.{RenewedBelow}
use Rattle.arena.proofs.Summing.{Renewing, renewing_start, renewing_more, renewing_done}
use Rattle.searching.specs.declared.search.Cut.{Cut}
use Rattle.splicing.specs.declared.ends.Ends.{Ends}
use Rattle.splicing.specs.inside.Open.{relink_one, relink_lowest, FrontReady, FrontMoved, last_sums, cut_sums}
use Rattle.splicing.proofs.RelinkWords.{Rewired, Ready, Replaced, rewired_none, rewired_turn, replaced_none, replaced_turn}
use Rattle.splicing.proofs.RelinkLaws.{ready, first_has, relinked}

-- The words and the ends from link i up to n are done.
pub record Rewiring (a₀ a : List ℕ) (h : ℕ) (cut found ends₀ ends : List ℕ) (n i : ℕ) : Type 0 where
  pub within : i ≤ n
  pub high : n ≤ 8
  pub cut_long : n ≤ length cut
  pub found_long : n ≤ length found
  pub ends_long : 8 ≤ length ends
  pub arena_kept : length a ≡ length a₀
  pub ends_kept : length ends ≡ length ends₀
  pub ready : Ready a₀ h cut ends₀ n
  pub words : Rewired a₀ a h cut found ends₀ i n
  pub replaced : Replaced cut ends₀ ends i n

-- And the sums of the head and of the ends.
pub record Relinking (a₀ a : List ℕ) (h : ℕ) (cut : Cut) (ends₀ ends : Ends) (sums₀ sums : List ℕ) (i : ℕ) : Type 0 where
  pub some : 1 ≤ i
  pub rewiring : Rewiring a₀ a h cut.lasts cut.adjusts ends₀.lasts ends.lasts cut.links i
  pub heads : Renewing (cut_sums cut.adjusts) cut.links sums₀ sums i
  pub lasts_new : Renewing (last_sums a₀ cut.lasts) cut.links ends₀.sums ends.sums i

pub relinking_start : (a : List ℕ) (h : ℕ) (cut : Cut) (ends : Ends) (sums : List ℕ) → FrontReady a h cut ends → length sums ≡ 9 → length ends.sums ≡ 9 → Relinking a a h cut ends ends sums sums cut.links
relinking_start a h cut ends sums p sums_nine lasts_nine =
    let r = p.4 in
    record {
      some = r.some;
      rewiring =
          record {
            within = omega arith;
            high = r.high;
            cut_long = r.cut_long;
            found_long = r.sums_long;
            ends_long = r.result_ends.long;
            arena_kept = refl;
            ends_kept = refl;
            ready = ready a h p.0 p.1 p.2 p.3 cut.lasts cut.adjusts ends.lasts cut.links r;
            words = rewired_none a h cut.lasts cut.adjusts ends.lasts cut.links;
            replaced = replaced_none cut.lasts ends.lasts cut.links;
          };
      heads = renewing_start (cut_sums cut.adjusts) cut.links sums cut.links sums_nine refl;
      lasts_new = renewing_start (last_sums a cut.lasts) cut.links ends.sums cut.links lasts_nine refl;
    }

pub stepped : (i : ℕ) → 1 < i → i ≡ suc (i - 1)
stepped i more = omega arith

-- A turn at the link k below i.
module _ (a₀ a : List ℕ) (h : ℕ) (cut found ends₀ ends : List ℕ) (n i k : ℕ) (below : i ≡ suc k) (g : Rewiring a₀ a h cut found ends₀ ends n i) where
  -- The end of the open list at this link is not replaced yet.
  end_is : get_or ends k 0 ≡ get_or ends₀ k 0
  end_is = g.replaced.below k (omega arith)

  less : k < n
  less = let within = g.within in omega arith

  pub rewiring_has : (k < 8) × Has a h × Has a (get_or ends k 0) × Has a (get_or cut k 0)
  rewiring_has =
      let high = g.high in
      let same = g.arena_kept in
      let p = less in
      let head = g.ready.head in
      let from : Has a₀ (get_or ends k 0) = subst (λ (x : ℕ). Has a₀ x) (sym end_is) (g.ready.from k less) in
      let to = g.ready.to k less in
      (omega arith, omega arith, omega arith, omega arith)

  module _ (b : List ℕ) (e : b ≡ relink_one a h (get_or ends k 0) (get_or cut k 0) k (get_or found k 0)) where
    words : Rewired a₀ b h cut found ends₀ k n
    words =
        subst (λ (x : List ℕ). Rewired a₀ x h cut found ends₀ k n)
        (sym (e ∙ ap (λ (x : ℕ). relink_one a h x (get_or cut k 0) k (get_or found k 0)) end_is))
        (rewired_turn a₀ a h cut found ends₀ k n less g.ready
        (subst (λ (j : ℕ). Rewired a₀ a h cut found ends₀ j n) below g.words))

    pub rewiring_turn : Rewiring a₀ b h cut found ends₀ (set ends k (get_or cut k 0)) n k
    rewiring_turn =
        let long = g.ends_long in
        let high = g.high in
        let within = g.within in
        let same = g.ends_kept in
        let ends_now = replaced_turn cut ends₀ ends k n less (omega arith) (subst (λ (j : ℕ). Replaced cut ends₀ ends j n) below g.replaced) in
        let kept = ends_now.length_kept in
        record {
          within = omega arith;
          high = high;
          cut_long = g.cut_long;
          found_long = g.found_long;
          ends_long = omega arith;
          arena_kept = words.length_kept;
          ends_kept = kept;
          ready = g.ready;
          words = words;
          replaced = ends_now;
        }

    -- The last record's adjust is as it was at the start.
    pub last_adjust : word b (get_or cut k 0) (11 + k) ≡ adjust a₀ (get_or cut k 0) k
    last_adjust =
        let high = g.high in
        let p = less in
        words.adjust_other (get_or cut k 0) k (omega arith) (g.ready.to_not_head k less)

-- A turn at a link above 0 renews one of the head's sums and one of those of the ends, where v is the adjust of the last record in front.
module _ (a₀ a : List ℕ) (h : ℕ) (cut : Cut) (ends₀ ends : Ends) (sums₀ sums : List ℕ) (i : ℕ) (g : Relinking a₀ a h cut ends₀ ends sums₀ sums i) (more : 1 < i) where
  abbrev k : ℕ
  k = i - 1

  -- The code reads the sum above link k.
  above : (s : List ℕ) → get_or s (k + 1) 0 ≡ get_or s i 0
  above s = let e : k + 1 ≡ i = omega arith in ap (λ (j : ℕ). get_or s j 0) e

  pub relinking_has : (k < 8) × Has a h × Has a (get_or ends.lasts k 0) × Has a (get_or cut.lasts k 0)
  relinking_has =
      rewiring_has a₀ a h cut.lasts cut.adjusts ends₀.lasts ends.lasts cut.links i k (stepped i more) g.rewiring

  module _ (b : List ℕ) (e : b ≡ relink_one a h (get_or ends.lasts k 0) (get_or cut.lasts k 0) k (get_or cut.adjusts k 0)) where
    pub relinking_turn : (v : ℕ) → v ≡ word b (get_or cut.lasts k 0) (11 + k) → Relinking a₀ b h cut ends₀ (record { lasts = set ends.lasts k (get_or cut.lasts k 0); sums = set ends.sums k ((get_or ends.sums (k + 1) 0 + v) % 2 ^ 32) }) sums₀ (set sums k ((get_or sums (k + 1) 0 + get_or cut.adjusts k 0) % 2 ^ 32)) k
    relinking_turn v v_is =
        let below = stepped i more in
        let w = g.rewiring in
        record {
          some = omega arith;
          rewiring = rewiring_turn a₀ a h cut.lasts cut.adjusts ends₀.lasts ends.lasts cut.links i k below w b e;
          heads =
              renewing_more (cut_sums cut.adjusts) cut.links sums₀ sums i w.high g.heads more _ _ _ (above sums) refl refl;
          lasts_new =
              renewing_more (last_sums a₀ cut.lasts) cut.links ends₀.sums ends.sums i w.high g.lasts_new more _ v _ (above ends.sums)
              (v_is ∙ last_adjust a₀ a h cut.lasts cut.adjusts ends₀.lasts ends.lasts cut.links i k below w b e) refl;
        }

-- The turn at link 0, at which no sum is kept, ends it.
module _ (a₀ a : List ℕ) (h : ℕ) (cut : Cut) (ends₀ ends : Ends) (sums₀ sums : List ℕ) (i : ℕ) (g : Relinking a₀ a h cut ends₀ ends sums₀ sums i) (over : i ≤ 1) where
  lowest : i ≡ suc 0
  lowest = let some = g.some in omega arith

  pub lowest_has : (0 < 8) × Has a h × Has a (get_or ends.lasts 0 0) × Has a (get_or cut.lasts 0 0)
  lowest_has =
      rewiring_has a₀ a h cut.lasts cut.adjusts ends₀.lasts ends.lasts cut.links i 0 lowest g.rewiring

  -- The front's first record, and the end that it goes behind, are those of the start.
  first_is : forward a h 0 ≡ forward a₀ h 0
  first_is = g.rewiring.words.forward_below h 0 (let some = g.some in omega arith)

  from_is : get_or ends.lasts 0 0 ≡ get_or ends₀.lasts 0 0
  from_is = end_is a₀ a h cut.lasts cut.adjusts ends₀.lasts ends.lasts cut.links i 0 lowest g.rewiring

  pub lowest_first : FrontReady a₀ h cut ends₀ → Has a (forward a h 0) × (get_or ends.lasts 0 0 < 4_294_967_296)
  lowest_first p =
      let r = p.4 in
      let has = first_has a₀ h p.0 p.1 p.2 p.3 cut.lasts cut.adjusts ends₀.lasts cut.links r in
      let fits = r.end_fits in
      let same = from_is in
      let long = g.rewiring.arena_kept in
      (subst (λ (x : ℕ). Has a x) (sym first_is) (omega arith), omega arith)

  pub relinking_done : (b : List ℕ) → b ≡ relink_lowest a h (get_or ends.lasts 0 0) (get_or cut.lasts 0 0) (get_or cut.adjusts 0 0) → FrontMoved a₀ b h cut ends₀ (record { lasts = set ends.lasts 0 (get_or cut.lasts 0 0); sums = ends.sums })
  unfolding relink_lowest
  relinking_done b e hc cs front back r =
      let links = relink_one a h (get_or ends.lasts 0 0) (get_or cut.lasts 0 0) 0 (get_or cut.adjusts 0 0) in
      let last = rewiring_turn a₀ a h cut.lasts cut.adjusts ends₀.lasts ends.lasts cut.links i 0 lowest g.rewiring links refl in
      record {
        links = links;
        relinked = relinked a₀ h hc cs front back cut.lasts cut.adjusts ends₀.lasts cut.links r links last.words (set ends.lasts 0 (get_or cut.lasts 0 0)) last.replaced;
        stored = e ∙ ap (λ (x : ℕ). put links x back_at (get_or ends.lasts 0 0)) first_is ∙ ap (put links (forward a₀ h 0) back_at) from_is;
      }

  pub heads_renewed : RenewedBelow (cut_sums cut.adjusts) cut.links sums₀ sums
  heads_renewed f t = renewing_done (cut_sums cut.adjusts) cut.links sums₀ sums i g.heads over f t

  pub lasts_renewed : RenewedBelow (last_sums a₀ cut.lasts) cut.links ends₀.sums ends.sums
  lasts_renewed f t = renewing_done (last_sums a₀ cut.lasts) cut.links ends₀.sums ends.sums i g.lasts_new over f t
