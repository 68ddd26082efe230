-- What the count of the links of a front keeps: each link below the present one is on a record in front.
-- The next record with a link is in front where it passes, and else none in front has the link.
use Rattle.std.proofs.Common.{◌≡◌, ℕ, suc, ◌+◌, ◌<◌, ◌≤◌, Bool, true, false, cond, leb, List, [], ◌∷◌, ◌++◌, sym, ◌∙◌, subst, arith, below_more}
use Rattle.arena.specs.Arena.{word, level, m_word, forward}
use Rattle.arena.specs.Lazy.{next_with}
use Rattle.arena.specs.inside.Chain.{All, Chain}
use Rattle.arena.proofs.ListLaws.{next_none, next_back, some_or_none, jump}
use Rattle.arena.proofs.Frames.{all_map, next_here}
use Rattle.searching.specs.inside.Cut.{front, Falling, Searchable, LinkCount, passes}
use Rattle.searching.proofs.SearchLaws.{front_jump, passes_yes, none_in_front}

pub chain_some : (a rs : List ℕ) → Chain a rs → All (λ r. 1 ≤ r) rs
chain_some a [] c = tt
chain_some a (r ∷ rs) c = (c.0.some, chain_some a rs c.1)

pub chain_high : (a rs : List ℕ) → Chain a rs → All (λ r. level a r ≤ 8) rs
chain_high a [] c = tt
chain_high a (r ∷ rs) c = (c.0.high, chain_high a rs c.1)

-- What holds of every record holds of those in front.
front_keeps : (P : ℕ → Type 0) (a : List ℕ) (key : ℕ) (rs : List ℕ) → All P rs → All P (front a key rs)
unfolding front
front_keeps P a key [] h = tt
front_keeps P a key (r ∷ rs) h = by (leb key (m_word a r)) (front_keeps P a key rs h.1)
  where
    by : (b : Bool) → All P (front a key rs) → All P (cond b (r ∷ front a key rs) [])
    by true rest = (h.0, rest)
    by false rest = tt

-- Where the next record with link k passes, one in front has link k.
some_in_front : (a : List ℕ) (k key : ℕ) (rs : List ℕ) → Falling a rs → passes a (next_with a k rs) key ≡ true → 1 ≤ next_with a k (front a key rs)
some_in_front a k key rs falling p =
    let yes_pass = passes_yes a (next_with a k rs) key p in
    let some = yes_pass.0 in
    let j = jump a k rs some in
    let x = next_with a k rs in
    let cut : front a key (j.before ++ (x ∷ j.after)) ≡ j.before ++ (x ∷ front a key j.after) = front_jump a key x j.before j.after (subst (Falling a) j.split falling) yes_pass.1 in
    let is : front a key rs ≡ j.before ++ (x ∷ front a key j.after) = subst (λ (l : List ℕ). front a key l ≡ j.before ++ (x ∷ front a key j.after)) (sym j.split) cut in
    let next : next_with a k (j.before ++ (x ∷ front a key j.after)) ≡ x = next_back a k j.before (x ∷ front a key j.after) j.lower ∙ next_here a k x (front a key j.after) j.link in
    subst (λ (l : List ℕ). 1 ≤ next_with a k l) (sym is) (subst (λ (y : ℕ). 1 ≤ y) (sym next) some)

-- A record with link k + 1 has link k.
some_below : (a : List ℕ) (k : ℕ) (rs : List ℕ) → All (λ r. 1 ≤ r) rs → 1 ≤ next_with a (suc k) rs → 1 ≤ next_with a k rs
some_below a k rs some more =
    some_or_none a k rs some (λ one. one)
    (λ none.
    let no_more = next_none a (suc k) rs (all_map rs (λ x (low : level a x ≤ k). omega arith) none) in
    absurd (omega arith))

-- The links below n are on records in front.
pub record Counting (a : List ℕ) (h key n : ℕ) : Type 0 where
  pub low : 1 ≤ n
  pub high : n ≤ 8
  pub with_link : (rs : List ℕ) → Searchable a h rs → (k : ℕ) → k < n → 1 ≤ next_with a k (front a key rs)

-- The forward of the head at a link is the next record with it.
link_is : (a : List ℕ) (h : ℕ) (rs : List ℕ) → Searchable a h rs → (k : ℕ) → k < 8 → forward a h k ≡ next_with a k rs
link_is a h rs s k few = let top = s.linked.top in s.linked.links.at k (omega arith)

pub counting_start : (a : List ℕ) (h key : ℕ) → passes a (forward a h 1) key ≡ true → Counting a h key 2
counting_start a h key p =
    record { low = omega arith; high = omega arith; with_link = λ rs s. below_more _ 1 (below_more _ 0 (λ k less. absurd (omega arith)) (zeroth rs s)) (first rs s) }
  where
    first : (rs : List ℕ) → Searchable a h rs → 1 ≤ next_with a 1 (front a key rs)
    first rs s =
        some_in_front a 1 key rs s.falling
        (subst (λ (x : ℕ). passes a x key ≡ true) (link_is a h rs s 1 (omega arith)) p)

    zeroth : (rs : List ℕ) → Searchable a h rs → 1 ≤ next_with a 0 (front a key rs)
    zeroth rs s =
        some_below a 0 (front a key rs) (front_keeps (λ r. 1 ≤ r) a key rs (chain_some a rs s.linked.chain))
        (first rs s)

module _ (a : List ℕ) (h key n : ℕ) (g : Counting a h key n) where
  -- The next record with link n as the code reads it, and whether it passes.
  module _ (less : n < 8) (x w : ℕ) (w_is : w ≡ word a h (3 + n)) (x_is : x ≡ w) (more : Bool) (passing : more ≡ passes a x key) where
    tested : (b : Bool) → more ≡ b → (rs : List ℕ) → Searchable a h rs → passes a (next_with a n rs) key ≡ b
    tested b e rs s =
        subst (λ (y : ℕ). passes a y key ≡ b) (x_is ∙ w_is ∙ link_is a h rs s n less) (sym passing ∙ e)

    pub counting_more : more ≡ true → Counting a h key (n + 1)
    counting_more e =
        record {
          low = omega arith;
          high = omega arith;
          with_link = λ rs s.
              below_more (λ k. 1 ≤ next_with a k (front a key rs)) n (g.with_link rs s)
              (some_in_front a n key rs s.falling (tested true e rs s));
        }

    pub counting_stop : more ≡ false → (rs : List ℕ) → Searchable a h rs → LinkCount a key rs n
    counting_stop e rs s =
        record {
          some = g.low;
          few = g.high;
          with_link = g.with_link rs s;
          lower = none_in_front a n key rs s.linked.chain s.falling (tested false e rs s);
        }

  pub counting_all : 8 ≤ n → (rs : List ℕ) → Searchable a h rs → LinkCount a key rs 8
  counting_all all rs s =
      let high = g.high in
      record {
        some = omega arith;
        few = omega arith;
        with_link = λ k less. g.with_link rs s k (omega arith);
        lower = front_keeps (λ x. level a x ≤ 8) a key rs (chain_high a rs s.linked.chain);
      }
