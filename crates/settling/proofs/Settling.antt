-- What the loop that settles a front keeps: the links from i on are settled, and every true p is right once the records before the first with link i are raised by the carry.
-- A turn raises these at the link below, so that the raised sum of that link would make each true p right; the carry to the next link is what is left of that sum, and only the records before the first with the link see it.
use Rattle.std.proofs.Common.{◌≡◌, ℕ, suc, ◌+◌, ◌-◌, ◌%◌, ◌^◌, ◌<◌, ◌≤◌, cond, eqb, ltb, List, ◌++◌, map, length, get_or, sym, refl, ap, ◌∙◌, subst, append_assoc, append-nil, arith, le-ltb, lt-ltb, eq-eqb, ne_eqb}
use Rattle.arena.specs.Arena.{word, level}
use Rattle.arena.specs.Lazy.{next_with, sum_from}
use Rattle.arena.specs.inside.Sums.{Suffixes}
use Rattle.arena.specs.inside.Chain.{Has, wrap, All, Away, Chain, Linked, trues, leaving, Same, Shape, Value, closed}
use Rattle.arena.specs.inside.Backs.{BacksKept}
use Rattle.arena.proofs.Cases.{lt_or_ge}
use Rattle.arena.proofs.ListLaws.{last_none, all_left, last_forward, apart_from}
use Rattle.arena.proofs.PutLaws.{same_refl, same_trans}
use Rattle.arena.proofs.SumLaws.{sum_first, sum_agree, add_both}
use Rattle.arena.proofs.Frames.{all_map, all_refl, same_value, chain_low, lowest_free, linked_frame}
use Rattle.splicing.specs.inside.Open.{last_sums}
use Rattle.settling.specs.inside.Lift.{Lifting, Chained}
use Rattle.settling.specs.inside.Settled.{head_sums, Ready, Settled}
use Rattle.settling.specs.inside.Cached.{Cached, MakesUp}
use Rattle.settling.proofs.LiftLaws.{Bumped}
use Rattle.settling.proofs.Raising.{lifted_none}
use Rattle.settling.proofs.SettleLaws.{trues_parted, trues_above}
use Rattle.settling.proofs.FrontLaws.{Parts, parts, parts_whole, starts_lower, last_has, chained_low, next_low}

-- The sums that enter the front: those of the head below link i, and those that it is to be entered with from i on.
unfoldable pub entering : List ℕ → ℕ → List ℕ → ℕ → ℕ → ℕ
entering a head ends i j = cond (ltb j i) (head_sums a head j) (last_sums a ends j)

module _ (a : List ℕ) (head : ℕ) (ends : List ℕ) (i j : ℕ) where
  entering_low : j < i → entering a head ends i j ≡ head_sums a head j
  unfolding entering
  entering_low h = simp (lt-ltb j i h)

  entering_high : i ≤ j → entering a head ends i j ≡ last_sums a ends j
  unfolding entering
  entering_high h = simp (le-ltb j i h)

-- The true p of the front as they are to be: before the first record with link i each is still to be raised.
abbrev pub Owed : (a₀ b : List ℕ) (head i carry q : ℕ) (ends front low rest : List ℕ) → Type 0
Owed a₀ b head i carry q ends front low rest =
    map (λ (t : ℕ). wrap t carry) (trues b (entering a₀ head ends i) low) ++ trues b (leaving b (entering a₀ head ends i) low) rest
    ≡ map (λ (t : ℕ). wrap t q) (trues a₀ (head_sums a₀ head) front)

pub record Left (a₀ b : List ℕ) (head i stop q : ℕ) (ends front back : List ℕ) : Type 0 where
  pub shape : (x : ℕ) → Shape a₀ b x
  pub backs_kept : BacksKept a₀ b
  pub outside : (x : ℕ) → Away x front → Same a₀ b x
  pub part : Parts b i front
  pub stop_is : stop ≡ next_with b (i - 1) (part.rest ++ back)
  pub owed : (carry : ℕ) → MakesUp (head_sums a₀ head) (last_sums a₀ ends) i q carry → Owed a₀ b head i carry q ends front part.low part.rest

pub record Settling (a₀ b : List ℕ) (head n i stop q : ℕ) (cut sums lasts : List ℕ) : Type 0 where
  pub length_kept : length b ≡ length a₀
  pub some : 1 ≤ i
  pub below : i ≤ n
  pub left : (ends front back : List ℕ) → Ready a₀ head n cut front back → Cached a₀ head ends sums lasts → Left a₀ b head i stop q ends front back

-- Some record of the front has each link below n.
tall : (a : List ℕ) (head n : ℕ) (cut front back : List ℕ) → Ready a head n cut front back → (k : ℕ) → k < n → All (λ x. level a x ≤ k) front → ⊥
tall a head n cut front back r k h low =
    r.cut_in (r.cut_at ∙ last_none a (n - 1) head front (all_map front (λ x e. omega arith) low))

-- The start.
module _ (a : List ℕ) (head n stop q : ℕ) (cut sums lasts : List ℕ) (first_stop : stop ≡ word a (get_or cut (n - 1) 0) (3 + (n - 1))) where
  left_start : (ends front back : List ℕ) → Ready a head n cut front back → Cached a head ends sums lasts → Left a a head n stop q ends front back
  unfolding parts_whole trues
  left_start ends front back r kept =
      let f : ℕ → ℕ = entering a head ends n in
      let same : sum_from f n 8 ≡ sum_from (last_sums a ends) n 8 = sum_agree (last_sums a ends) f n 8 (λ j low high. entering_high a head ends n j low) in
      let top = r.linked.top in
      let most = r.most in
      let some = r.some in
      record {
        shape = λ x. record { level_kept = refl; m_kept = refl; forward_kept = λ j h. refl };
        backs_kept = λ x. refl;
        outside = λ x away. same_refl a x;
        part = parts_whole a n front r.lower;
        stop_is =
            first_stop ∙ ap (λ (x : ℕ). word a x (3 + (n - 1))) r.cut_at
            ∙ last_forward a (n - 1) head front back (r.linked.links.at (n - 1) (omega arith)) r.linked.chain;
        owed = λ carry made.
            append-nil (map (λ (t : ℕ). wrap t carry) (trues a f front))
            ∙ trues_above a n carry q most f (head_sums a head) (λ j h. entering_low a head ends n j h)
            (ap (λ (x : ℕ). (carry + x) % 2 ^ 32) same ∙ made) front r.lower;
      }

  pub settling_start : 1 ≤ n → Settling a a head n n stop q cut sums lasts
  settling_start some = record { length_kept = refl; some = some; below = omega arith; left = left_start }

pub ready_cut : (a : List ℕ) (head n : ℕ) (cut front back : List ℕ) → Ready a head n cut front back → Has a (get_or cut (n - 1) 0)
ready_cut a head n cut front back r = rw r.cut_at (last_has a (n - 1) head front back r.linked.has r.linked.chain)

-- The carries to two links, one below the other, differ by what the sums at the lower one are.
cancel : (c d x : ℕ) → (c + x) % 2 ^ 32 ≡ (d + x) % 2 ^ 32 → c % 2 ^ 32 ≡ d % 2 ^ 32
cancel c d x e = omega arith

next_carry : (q c c' x y l h : ℕ) → (c + x) % 2 ^ 32 ≡ (q + y) % 2 ^ 32 → (c' + (l + x)) % 2 ^ 32 ≡ (q + (h + y)) % 2 ^ 32 → (c' + l) % 2 ^ 32 ≡ (c + h) % 2 ^ 32
next_carry q c c' x y l h first second =
    let left : c' + l + x ≡ c' + (l + x) = omega arith in
    let middle : q + (h + y) ≡ h + (q + y) = omega arith in
    let right : h + (c + x) ≡ c + h + x = omega arith in
    cancel (c' + l) (c + h) x
    (ap (λ (n : ℕ). n % 2 ^ 32) left ∙ second ∙ ap (λ (n : ℕ). n % 2 ^ 32) middle
    ∙ add_both h (q + y) (c + x) (sym first)
    ∙ ap (λ (n : ℕ). n % 2 ^ 32) right)

turned_round : (c d x y : ℕ) → (c + x) % 2 ^ 32 ≡ (d + y) % 2 ^ 32 → (y + d) % 2 ^ 32 ≡ (x + c) % 2 ^ 32
turned_round c d x y e = omega arith

-- The sums of the turn at link k: those that enter at i, raised by the carry at k, are those that enter at k, raised by the next carry at k.
module _ (a : List ℕ) (head : ℕ) (ends : List ℕ) (i k carry : ℕ) where
  unfoldable raised_sums : ℕ → ℕ
  raised_sums j = cond (eqb j k) (entering a head ends i k + carry) (entering a head ends i j)

  raised_here : raised_sums k ≡ entering a head ends i k + carry
  unfolding raised_sums
  raised_here = simp (eq-eqb k k refl)

  raised_other : (j : ℕ) → (j ≡ k → ⊥) → raised_sums j ≡ entering a head ends i j
  unfolding raised_sums
  raised_other j ne = simp (ne_eqb j k ne)

  bumped_from : Bumped k carry (entering a head ends i) raised_sums
  bumped_from =
      record { at = λ some. ap (λ (x : ℕ). x % 2 ^ 32) raised_here; other = λ j few ne. raised_other j ne }

  bumped_to : (carry' : ℕ) → i ≡ suc k → (carry' + last_sums a ends k) % 2 ^ 32 ≡ (carry + head_sums a head k) % 2 ^ 32 → Bumped k carry' (entering a head ends k) raised_sums
  bumped_to carry' e next =
      let was : entering a head ends i k ≡ head_sums a head k = entering_low a head ends i k (omega arith) in
      let is : entering a head ends k k ≡ last_sums a ends k = entering_high a head ends k k (omega arith) in
      record {
        at = λ some.
            ap (λ (x : ℕ). x % 2 ^ 32) (raised_here ∙ ap (λ (x : ℕ). x + carry) was)
            ∙ turned_round carry' carry (last_sums a ends k) (head_sums a head k) next
            ∙ ap (λ (x : ℕ). (x + carry') % 2 ^ 32) (sym is);
        other = λ j few ne.
            raised_other j ne
            ∙ lt_or_ge j k
            (λ h. entering_low a head ends i j (omega arith) ∙ sym (entering_low a head ends k j h))
            (λ h. entering_high a head ends i j (omega arith) ∙ sym (entering_high a head ends k j h));
      }

-- One turn at the link i - 1, from the head's forward on.
module _ (a₀ b : List ℕ) (head n i stop q : ℕ) (cut sums lasts : List ℕ) (g : Settling a₀ b head n i stop q cut sums lasts) (ends front back : List ℕ) (r : Ready a₀ head n cut front back) (kept : Cached a₀ head ends sums lasts) where
  abbrev l : Left a₀ b head i stop q ends front back
  l = g.left ends front back r kept

  linked : Linked b head (front ++ back)
  linked = linked_frame a₀ b head (front ++ back) g.length_kept (l.shape head) (all_refl (front ++ back) l.shape) r.linked

  more : 0 < i
  more = g.some

  small : i - 1 < 8
  small = let below = g.below in let most = r.most in let some = g.some in omega arith

  lower : All (λ x. level b x ≤ suc (i - 1)) l.part.low
  lower = all_map l.part.low (λ x e. omega arith) l.part.lower

  some_of : (c : List ℕ) → Linked c head (front ++ back) → All (λ x. 1 ≤ level c x) front
  some_of c list = all_left (λ x. 1 ≤ level c x) front back (chain_low closed c (front ++ back) list.chain)

  low_some : All (λ x. 1 ≤ level b x) l.part.low
  low_some =
      all_left (λ x. 1 ≤ level b x) l.part.low l.part.rest
      (subst (All (λ x. 1 ≤ level b x)) l.part.split (some_of b linked))

  pub settling_chained : (first : ℕ) → first ≡ word b head (3 + (i - 1)) → Chained b (i - 1) first stop l.part.low
  settling_chained first e =
      chained_low b head (i - 1) small front back linked l.part.low l.part.rest l.part.split first stop lower
      r.few e l.stop_is

  pub heads_has : Has b head
  heads_has = linked.has

  -- The arena after the turn.
  module _ (b' : List ℕ) (carry : ℕ) (made : MakesUp (head_sums a₀ head) (last_sums a₀ ends) i q carry) (long : length b' ≡ length b) (lift : Lifting b b' (i - 1) carry l.part.low) where
    away_low : (x : ℕ) → Away x front → Away x l.part.low
    away_low x away = all_left (λ y. y ≡ x → ⊥) l.part.low l.part.rest (subst (Away x) l.part.split away)

    outside' : (x : ℕ) → Away x front → Same a₀ b' x
    outside' x away = same_trans a₀ b b' x (l.outside x away) (lift.outside x (away_low x away))

    shape' : (x : ℕ) → Shape a₀ b' x
    shape' x =
        let s = l.shape x in
        let t = lift.shape x in
        record {
          level_kept = t.level_kept ∙ s.level_kept;
          m_kept = t.m_kept ∙ s.m_kept;
          forward_kept = λ j h. t.forward_kept j h ∙ s.forward_kept j h;
        }

    backs_kept' : BacksKept a₀ b'
    backs_kept' x = lift.backs_kept x ∙ l.backs_kept x

    linked' : Linked b' head (front ++ back)
    linked' = linked_frame b b' head (front ++ back) long (lift.shape head) (all_refl (front ++ back) lift.shape) linked

    part' : Parts b' (i - 1) front
    part' = parts b' (i - 1) front

    stop' : (first : ℕ) → first ≡ word b head (3 + (i - 1)) → first ≡ next_with b' (i - 1 - 1) (part'.rest ++ back)
    stop' first e =
        let some = more in
        e ∙ sym ((lift.shape head).forward_kept (i - 1) small)
        ∙ next_low b' head (i - 1) small front back linked' part'.low part'.rest part'.split (i - 1 - 1) (omega arith)
        part'.lower part'.starts
        (λ low. tall a₀ head n cut front back r (i - 1) (let below = g.below in omega arith) (all_map front (λ x h. let s = (shape' x).level_kept in omega arith) low))

    behind : All (Value b b') l.part.rest
    behind =
        all_map l.part.rest (λ x away. same_value b b' x (lift.outside x away))
        (all_left (λ y. Away y l.part.low) l.part.rest back
        (apart_from b l.part.low (l.part.rest ++ back)
        (subst (Chain b) (ap (λ (x : List ℕ). x ++ back) l.part.split ∙ append_assoc l.part.low l.part.rest back) linked.chain)))

    -- With the raised sum of the link every true p is right.
    right_raised : trues b' (raised_sums a₀ head ends i (i - 1) carry) front ≡ map (λ (t : ℕ). wrap t q) (trues a₀ (head_sums a₀ head) front)
    right_raised =
        ap (trues b' (raised_sums a₀ head ends i (i - 1) carry)) l.part.split
        ∙ trues_parted b b' (i - 1) carry small lift.shape (entering a₀ head ends i) (raised_sums a₀ head ends i (i - 1) carry)
        (bumped_from a₀ head ends i (i - 1) carry) l.part.low l.part.rest low_some lower lift.each
        (starts_lower b i (i - 1) l.part.rest (omega arith) l.part.starts) behind
        ∙ l.owed carry made

    owed' : (carry' : ℕ) → MakesUp (head_sums a₀ head) (last_sums a₀ ends) (i - 1) q carry' → Owed a₀ b' head (i - 1) carry' q ends front part'.low part'.rest
    owed' carry' made' =
        sym (trues_parted b' b' (i - 1) carry' small (λ x. record { level_kept = refl; m_kept = refl; forward_kept = λ j h. refl })
        (entering a₀ head ends (i - 1)) (raised_sums a₀ head ends i (i - 1) carry)
        (bumped_to a₀ head ends i (i - 1) carry carry' (omega (arith, more)) next) part'.low part'.rest
        (all_left (λ x. 1 ≤ level b' x) part'.low part'.rest (subst (All (λ x. 1 ≤ level b' x)) part'.split (some_of b' linked')))
        (all_map part'.low (λ x h. omega arith) part'.lower)
        (lifted_none b' (i - 1) carry' part'.low part'.lower) part'.starts
        (all_refl part'.rest (λ x. same_value b' b' x (same_refl b' x))))
        ∙ ap (trues b' (raised_sums a₀ head ends i (i - 1) carry)) (sym part'.split)
        ∙ right_raised
      where
        -- The sums from the link below up are one link more.
        first_of : (f : ℕ → ℕ) → sum_from f (i - 1) 8 ≡ f (i - 1) + sum_from f i 8
        first_of f =
            let some = more in
            let same : suc (i - 1) ≡ i = omega arith in
            sum_first f (i - 1) 8 small ∙ ap (λ (j : ℕ). f (i - 1) + sum_from f j 8) same

        next : (carry' + last_sums a₀ ends (i - 1)) % 2 ^ 32 ≡ (carry + head_sums a₀ head (i - 1)) % 2 ^ 32
        next =
            next_carry q carry carry' (sum_from (last_sums a₀ ends) i 8) (sum_from (head_sums a₀ head) i 8) (last_sums a₀ ends (i - 1)) (head_sums a₀ head (i - 1)) made
            (ap (λ (x : ℕ). (carry' + x) % 2 ^ 32) (sym (first_of (last_sums a₀ ends))) ∙ made' ∙ ap (λ (x : ℕ). (q + x) % 2 ^ 32) (first_of (head_sums a₀ head)))

    left_turn : (first : ℕ) → first ≡ word b head (3 + (i - 1)) → Left a₀ b' head (i - 1) first q ends front back
    left_turn first e =
        record {
          shape = shape';
          backs_kept = backs_kept';
          outside = outside';
          part = part';
          stop_is = stop' first e;
          owed = owed';
        }

    -- After the turn at link 0 the front is settled: what is left differs at link 0 alone, which counts for no record.
    settled_last : i - 1 ≡ 0 → Settled a₀ b' head q ends front
    settled_last last =
        record {
          length_kept = long ∙ g.length_kept;
          shape = shape';
          backs_kept = backs_kept';
          outside = outside';
          values =
              lowest_free b' (raised_sums a₀ head ends i (i - 1) carry) (last_sums a₀ ends) front (some_of b' linked')
              (λ k some high.
              sym (raised_other a₀ head ends i (i - 1) carry k (omega arith) ∙ entering_high a₀ head ends i k (omega arith)))
              ∙ right_raised;
        }

-- What a call that raises a stretch ensures.
abbrev Lifts : (b b' : List ℕ) (k first stop carry : ℕ) → Type 0
Lifts b b' k first stop carry = (rs : List ℕ) → Chained b k first stop rs → Lifting b b' k carry rs

-- What the call that finds the carry to a level ensures.
abbrev Carries : (q : ℕ) (sums lasts : List ℕ) (i carry : ℕ) → Type 0
Carries q sums lasts i carry = (f h : ℕ → ℕ) → Suffixes f sums → Suffixes h lasts → MakesUp f h i q carry

module _ (a₀ b : List ℕ) (head n i stop q : ℕ) (cut sums lasts : List ℕ) (g : Settling a₀ b head n i stop q cut sums lasts) where
  pub settling_turn : (b' : List ℕ) (carry first : ℕ) → length b' ≡ length b → 1 < i → Carries q sums lasts (i - 1 + 1) carry → first ≡ word b head (3 + (i - 1)) → Lifts b b' (i - 1) first stop carry → Settling a₀ b' head n (i - 1) first q cut sums lasts
  settling_turn b' carry first long more made e lifts =
      let same : i - 1 + 1 ≡ i = omega arith in
      let carries = subst (λ (j : ℕ). Carries q sums lasts j carry) same made in
      record {
        length_kept = long ∙ g.length_kept;
        some = omega arith;
        below = let below = g.below in omega arith;
        left = λ ends front back r kept.
            left_turn a₀ b head n i stop q cut sums lasts g ends front back r kept b' carry (carries _ _ kept.head kept.ends) long
            (lifts _ (settling_chained a₀ b head n i stop q cut sums lasts g ends front back r kept first e)) first e;
      }

  -- Behind the loop link 0 is left.
  module _ (end : i ≤ 1) where
    last : i ≡ 1
    last = let some = g.some in omega arith

    none : i - 1 ≡ 0
    none = let some = g.some in omega arith

    pub lowest_chained : (ends front back : List ℕ) → Ready a₀ head n cut front back → Cached a₀ head ends sums lasts → (first : ℕ) → first ≡ word b head 3 → (rs : List ℕ) × Chained b 0 first stop rs
    lowest_chained ends front back r kept first e =
        subst (λ (k : ℕ). (rs : List ℕ) × Chained b k first stop rs) none
        (_, settling_chained a₀ b head n i stop q cut sums lasts g ends front back r kept first (subst (λ (k : ℕ). first ≡ word b head (3 + k)) (sym none) e))

    module _ (b' : List ℕ) (carry first : ℕ) (long : length b' ≡ length b) (carries : Carries q sums lasts 1 carry) (e : first ≡ word b head 3) (lifts : Lifts b b' 0 first stop carry) where
      pub settling_done : (ends front back : List ℕ) → Ready a₀ head n cut front back → Cached a₀ head ends sums lasts → Settled a₀ b' head q ends front
      settling_done ends front back r kept =
          settled_last a₀ b head n i stop q cut sums lasts g ends front back r kept b' carry
          (subst (λ (j : ℕ). Carries q sums lasts j carry) (sym last) carries _ _ kept.head kept.ends) long
          (subst (λ (k : ℕ). Lifts b b' k first stop carry) (sym none) lifts _
          (settling_chained a₀ b head n i stop q cut sums lasts g ends front back r kept first (subst (λ (k : ℕ). first ≡ word b head (3 + k)) (sym none) e)))
          none
