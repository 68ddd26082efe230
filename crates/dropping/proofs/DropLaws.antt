-- After its first record has left, the list of a head is the rest, with the same true p.
-- Up to the record's level its forwards and sums are those that the rest was entered with; above it the head's own are.
use mathlib.Core.Path.{◌≡◌, refl, sym, ap, subst, ◌∙◌}
use mathlib.Core.List.{List, ◌∷◌}
use Prim.Native.Nat.{ℕ, zero, suc, ◌+◌, ◌≤◌, ◌<◌}
use native.Mathlib.Numerals.{add-one}
use native.Mathlib.Omega.{arith}
use lib.ListN.{length}
use borrow.Author.Tests.{lt-ltb, le-ltb}
use Rattle.arena.specs.Arena.{stride, word, level, forward, adjust}
use Rattle.arena.specs.Lazy.{next_with}
use Rattle.arena.specs.inside.Chain.{Has, put, All, Member, Linked, after, Same}
use Rattle.arena.specs.inside.Sums.{Renewed}
use Rattle.arena.proofs.Cases.{lt_or_ge, eq_or_ne, last_or_below}
use Rattle.arena.proofs.PutLaws.{length_put, word_same, word_other_record, word_other_field, same_put, same_refl, same_trans}
use Rattle.arena.proofs.Frames.{next_here, next_past, all_map, same_shape, same_value, next_frame, chain_frame, trues_frame}
use Rattle.dropping.specs.inside.Dropping.{handed, handed_over, Dropped, DroppedTied}

-- One link.
module _ (a : List ℕ) (h r k : ℕ) (other : r ≡ h → ⊥) (has : Has a h) (small : k < 8) where
  handed_length : length (handed a h r k) ≡ length a
  handed_length = length_put (put a h (3 + k) (word a r (3 + k))) h (11 + k) _ ∙ length_put a h (3 + k) _

  handed_other : (x : ℕ) → (x ≡ h → ⊥) → Same a (handed a h r k) x
  handed_other x e =
      same_trans a (put a h (3 + k) (word a r (3 + k))) (handed a h r k) x (same_put a h (3 + k) _ x e (omega arith))
      (same_put (put a h (3 + k) (word a r (3 + k))) h (11 + k) _ x e (omega arith))

  handed_field : (j : ℕ) → j < stride → (j ≡ 3 + k → ⊥) → (j ≡ 11 + k → ⊥) → word (handed a h r k) h j ≡ word a h j
  handed_field j few n m =
      word_other_field (put a h (3 + k) (word a r (3 + k))) h (11 + k) _ h j m (omega arith) few
      ∙ word_other_field a h (3 + k) _ h j n (omega arith) few

  handed_forward : word (handed a h r k) h (3 + k) ≡ word a r (3 + k)
  handed_forward =
      word_other_field (put a h (3 + k) (word a r (3 + k))) h (11 + k) _ h (3 + k) (omega arith) (omega arith) (omega arith)
      ∙ word_same a h (3 + k) _ has (omega arith)

  handed_adjust : word (handed a h r k) h (11 + k) ≡ word a r (11 + k)
  handed_adjust =
      word_same (put a h (3 + k) (word a r (3 + k))) h (11 + k) _ (let l = length_put a h (3 + k) (word a r (3 + k)) in omega arith) (omega arith)
      ∙ word_other_record a h (3 + k) _ r (11 + k) other (omega arith) (omega arith)

-- All links below n.
module _ (a : List ℕ) (h r : ℕ) (other : r ≡ h → ⊥) (has : Has a h) where
  over_length : (n : ℕ) → n ≤ 8 → length (handed_over n a h r) ≡ length a
  unfolding handed_over
  over_length zero few = refl
  over_length (suc n) few =
      handed_length (handed_over n a h r) h r n other (let l = over_length n (omega arith) in omega arith) (omega arith) ∙ over_length n (omega arith)

  over_has : (n : ℕ) → n ≤ 8 → Has (handed_over n a h r) h
  over_has n few = let l = over_length n few in omega arith

  over_other : (n : ℕ) → n ≤ 8 → (x : ℕ) → (x ≡ h → ⊥) → Same a (handed_over n a h r) x
  unfolding handed_over
  over_other zero few x e = same_refl a x
  over_other (suc n) few x e =
      same_trans a (handed_over n a h r) (handed (handed_over n a h r) h r n) x (over_other n (omega arith) x e)
      (handed_other (handed_over n a h r) h r n other (over_has n (omega arith)) (omega arith) x e)

  over_low : (n : ℕ) → n ≤ 8 → (j : ℕ) → j < 3 → word (handed_over n a h r) h j ≡ word a h j
  unfolding handed_over
  over_low zero few j e = refl
  over_low (suc n) few j e =
      handed_field (handed_over n a h r) h r n other (over_has n (omega arith)) (omega arith) j (omega arith) (omega arith) (omega arith)
      ∙ over_low n (omega arith) j e

  over_forward : (n : ℕ) → n ≤ 8 → (k : ℕ) → k < n → forward (handed_over n a h r) h k ≡ forward a r k
  unfolding handed_over
  over_forward zero few k e = absurd (omega arith)
  over_forward (suc n) few k e =
      last_or_below k n e
      (λ same.
      ap (λ (i : ℕ). forward (handed (handed_over n a h r) h r n) h i) same
      ∙ handed_forward (handed_over n a h r) h r n other (over_has n (omega arith)) (omega arith)
      ∙ (over_other n (omega arith) r other).at (3 + n) (omega arith)
      ∙ ap (λ (i : ℕ). forward a r i) (sym same))
      (λ less.
      handed_field (handed_over n a h r) h r n other (over_has n (omega arith)) (omega arith) (3 + k) (omega arith) (omega arith) (omega arith)
      ∙ over_forward n (omega arith) k less)

  over_adjust : (n : ℕ) → n ≤ 8 → (k : ℕ) → k < n → adjust (handed_over n a h r) h k ≡ adjust a r k
  unfolding handed_over
  over_adjust zero few k e = absurd (omega arith)
  over_adjust (suc n) few k e =
      last_or_below k n e
      (λ same.
      ap (λ (i : ℕ). adjust (handed (handed_over n a h r) h r n) h i) same
      ∙ handed_adjust (handed_over n a h r) h r n other (over_has n (omega arith)) (omega arith)
      ∙ (over_other n (omega arith) r other).at (11 + n) (omega arith)
      ∙ ap (λ (i : ℕ). adjust a r i) (sym same))
      (λ less.
      handed_field (handed_over n a h r) h r n other (over_has n (omega arith)) (omega arith) (11 + k) (omega arith) (omega arith) (omega arith)
      ∙ over_adjust n (omega arith) k less)

  over_above : (n : ℕ) → n ≤ 8 → (k : ℕ) → n ≤ k → k < 8 → (forward (handed_over n a h r) h k ≡ forward a h k) × (adjust (handed_over n a h r) h k ≡ adjust a h k)
  unfolding handed_over
  over_above zero few k low high = (refl, refl)
  over_above (suc n) few k low high =
      let below = over_above n (omega arith) k (omega arith) high in (
        handed_field (handed_over n a h r) h r n other (over_has n (omega arith)) (omega arith) (3 + k) (omega arith) (omega arith) (omega arith) ∙ below.0,
        handed_field (handed_over n a h r) h r n other (over_has n (omega arith)) (omega arith) (11 + k) (omega arith) (omega arith) (omega arith) ∙ below.1,
      )

-- The list without its first record.
module _ (a : List ℕ) (h r : ℕ) (rs : List ℕ) (l : Linked a h (r ∷ rs)) where
  other_head : r ≡ h → ⊥
  other_head = l.away.0

  first : Member a r rs
  first = l.chain.0

  abbrev now_is : List ℕ
  now_is = handed_over (level a r) a h r

  high : level a r ≤ 8
  high = first.high

  kept : (x : ℕ) → (x ≡ h → ⊥) → Same a now_is x
  kept x e = over_other a h r other_head l.has (level a r) high x e

  rest_kept : All (Same a now_is) rs
  rest_kept = all_map rs kept l.away.1

  levels : All (λ x. level now_is x ≡ level a x) rs
  levels = all_map rs (λ x s. s.at 0 (omega arith)) rest_kept

  head_forward : (k : ℕ) → k < 8 → forward now_is h k ≡ next_with now_is k rs
  head_forward k few =
      lt_or_ge k (level a r)
      (λ e. over_forward a h r other_head l.has (level a r) high k e ∙ first.links.at k e ∙ sym (next_frame a now_is k rs levels))
      (λ e.
      (over_above a h r other_head l.has (level a r) high k e few).0
      ∙ l.links.at k (let t = l.top in omega arith)
      ∙ next_past a k r rs e
      ∙ sym (next_frame a now_is k rs levels))

  head_sums : (k : ℕ) → k < 8 → adjust now_is h k ≡ after a (adjust a h) r k
  unfolding after
  head_sums k few =
      lt_or_ge k (level a r)
      (λ e. over_adjust a h r other_head l.has (level a r) high k e ∙ sym (simp (lt-ltb k (level a r) e)))
      (λ e. (over_above a h r other_head l.has (level a r) high k e few).1 ∙ sym (simp (le-ltb k (level a r) e)))

  pub dropped : Dropped a now_is h r rs
  dropped =
      let long = over_length a h r other_head l.has (level a r) high in
      let top : level now_is h ≡ 8 = over_low a h r other_head l.has (level a r) high 0 (omega arith) ∙ l.top in
      record {
        length_kept = long;
        linked =
            record {
              has = over_has a h r other_head l.has (level a r) high;
              top = top;
              links = record { at = λ k e. head_forward k (omega arith) };
              away = l.away.1;
              chain = chain_frame a now_is rs long (all_map rs (λ x s. same_shape a now_is x s) rest_kept) l.chain.1;
            };
        sums = head_sums;
        values = trues_frame a now_is (after a (adjust a h) r) (adjust now_is h) rs head_sums (all_map rs (λ x s. same_value a now_is x s) rest_kept);
        level_kept = λ x.
            eq_or_ne x h (λ e. rw e (over_low a h r other_head l.has (level a r) high 0 (omega arith))) (λ e. (kept x e).at 0 (omega arith));
        m_kept = λ x.
            eq_or_ne x h (λ e. rw e (over_low a h r other_head l.has (level a r) high 1 (omega arith))) (λ e. (kept x e).at 1 (omega arith));
        outside = kept;
      }

-- What the loop over the links keeps.
pub record Handing (a₀ a : List ℕ) (h r n k : ℕ) : Type 0 where
  pub below : k ≤ n
  pub few : n ≤ 8
  pub head_has : Has a₀ h
  pub first_has : Has a₀ r
  pub kept : length a ≡ length a₀
  pub is : a ≡ handed_over k a₀ h r

pub same_first : (a : List ℕ) (h r x : ℕ) (rs : List ℕ) → Linked a h (x ∷ rs) → r ≡ word a h 3 → r ≡ x
same_first a h r x rs l e =
    e ∙ l.links.at 0 (let t = l.top in omega arith) ∙ next_here a 0 x rs l.chain.0.low

pub first_has : (a : List ℕ) (h r : ℕ) → (x : ℕ) × (rs : List ℕ) × Linked a h (x ∷ rs) → r ≡ word a h 3 → Has a r
first_has a h r p e =
    subst (λ (x : ℕ). Has a x) (sym (same_first a h r p.0 p.1 p.2 e)) p.2.chain.0.has

pub handing_start : (a : List ℕ) (h r n : ℕ) → (x : ℕ) × (rs : List ℕ) × Linked a h (x ∷ rs) → r ≡ word a h 3 → n ≡ word a r 0 → Handing a a h r n 0
unfolding handed_over
handing_start a h r n p e f =
    let same = same_first a h r p.0 p.1 p.2 e in
    let high = p.2.chain.0.high in
    let top : n ≡ level a p.0 = f ∙ ap (level a) same in
    record {
      below = omega arith;
      few = omega arith;
      head_has = p.2.has;
      first_has = first_has a h r p e;
      kept = refl;
      is = refl;
    }

pub handing_turn : (a₀ a b : List ℕ) (h r n k : ℕ) → Handing a₀ a h r n k → k < n → b ≡ handed a h r k → Handing a₀ b h r n (k + 1)
unfolding handed_over
handing_turn a₀ a b h r n k g more e =
    let here : b ≡ handed_over (suc k) a₀ h r = e ∙ ap (λ (x : List ℕ). handed x h r k) g.is in
    let few = g.few in
    record {
      below = omega arith;
      few = few;
      head_has = g.head_has;
      first_has = g.first_has;
      kept = ap length e ∙ length_put (put a h (3 + k) (word a r (3 + k))) h (11 + k) _ ∙ length_put a h (3 + k) _ ∙ g.kept;
      is = here ∙ ap (λ (i : ℕ). handed_over i a₀ h r) (sym (add-one k));
    }

pub handing_done : (a₀ a : List ℕ) (h r n k : ℕ) → Handing a₀ a h r n k → n ≤ k → r ≡ word a₀ h 3 → n ≡ word a₀ r 0 → (x : ℕ) (rs : List ℕ) → Linked a₀ h (x ∷ rs) → Dropped a₀ a h x rs
handing_done a₀ a h r n k g done e f x rs l =
    let same = same_first a₀ h r x rs l e in
    let below = g.below in
    let all : k ≡ level a₀ x = (let q : k ≡ n = omega arith in q) ∙ f ∙ ap (level a₀) same in
    let whole : a ≡ handed_over (level a₀ x) a₀ h x = g.is ∙ ap (λ (i : ℕ). handed_over i a₀ h r) all ∙ ap (λ (y : ℕ). handed_over (level a₀ x) a₀ h y) same in
    subst (λ (b : List ℕ). Dropped a₀ b h x rs) (sym whole) (dropped a₀ h x rs l)

-- The two ways of dropping where the m of a record is the key.
pub tied_drops : (a b : List ℕ) (h r last key m : ℕ) (sums sums' : List ℕ) → m ≡ word a last 1 → m ≡ key → ((x : ℕ) (rs : List ℕ) → Linked a h (x ∷ rs) → Dropped a b h x rs) → Renewed a r sums sums' → DroppedTied a b h r last key sums sums'
tied_drops a b h r last key m sums sums' m_is same drop pass =
    record {
      drops = λ e. drop;
      passes = λ e. pass;
      stays = λ other. absurd (other (sym m_is ∙ same));
      sums_stay = λ other. absurd (other (sym m_is ∙ same));
    }

pub tied_stays : (a : List ℕ) (h r last key m : ℕ) (sums : List ℕ) → m ≡ word a last 1 → (m ≡ key → ⊥) → DroppedTied a a h r last key sums sums
tied_stays a h r last key m sums m_is other =
    record {
      drops = λ e. absurd (other (m_is ∙ e));
      passes = λ e. absurd (other (m_is ∙ e));
      stays = λ e. refl;
      sums_stay = λ e. refl;
    }
