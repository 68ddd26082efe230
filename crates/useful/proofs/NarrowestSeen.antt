-- The narrowest size lower than a height, among the sizes that have been looked at.
-- The best so far is no worse than any of these, and where the next is the first that is lower, or narrower, it is so too.
use mathlib.Core.Path.{◌≡◌, refl, sym, ap, subst, ◌∙◌}
use mathlib.Core.Bool.{Bool, true, false, cond, true≢false}
use Rattle.std.specs.Prelude.{Option, Some, None}
use mathlib.Core.List.{List}
use Prim.Native.Nat.{ℕ, ◌+◌, ◌≤◌, ◌<◌}
use native.Mathlib.Omega.{arith}
use lib.ListN.{length}
use lib.Dec.{ltb}
use borrow.Author.Tests.{ltb-true, ltb-false, lt-ltb}
use Rattle.slicing.specs.Item.{Item, size, height, width}
use Rattle.sizes.specs.inside.Sizes.{sizes_in, SizeIn}
use Rattle.sizes.specs.declared.Size.{Size}
use Rattle.sizes.proofs.SizesIn.{in_length}
use Rattle.useful.specs.inside.Narrowest.{size_no, narrower, Narrowest, NextBelow}
use Rattle.useful.proofs.NoWorse.{NoWorse, Narrower, narrower_true, narrower_false, narrower_yes}

-- The height and the width that the code holds, as an item.
abbrev held : Size → Item
held z = size z.height z.width

-- No size of the first k that is lower than h is better.
abbrev BestOf : List Item → ℕ → ℕ → Item → Type 0
BestOf s h k best = (i : ℕ) → i < k → height (size_no s i) < h → NoWorse best (size_no s i)

-- The size that is taken: it is lower than h, and no equal size stands before it.
record Taken (s : List Item) (h : ℕ) (best : Item) (place k : ℕ) : Type 0 where
  seen : place < k
  same : best ≡ size_no s place
  lower : best.m < h
  first : (i : ℕ) → i < place → size_no s i ≡ best → ⊥

-- The best of the first k sizes that are lower than h, with its place; where none is taken, none of them is lower.
abbrev Seen : List Item → ℕ → ℕ → Option (ℕ × Size) → Type 0
Seen s h k None = (i : ℕ) → i < k → height (size_no s i) < h → ⊥
Seen s h k (Some b) = Taken s h (held b.1) b.0 k × BestOf s h k (held b.1)

pub record Best (s : List Item) (h : ℕ) (best : Option (ℕ × Size)) (k : ℕ) : Type 0 where
  pub inside : k ≤ length s
  seen : Seen s h k best

-- The size that the code holds, with its place, where it is one: no size is as wide as that which it begins with.
abbrev pub chosen : ℕ → Size → Option (ℕ × Size)
chosen place best = cond (ltb best.width 65_536) (Some (place, best)) None

-- What holds of the first k sizes and of the next holds of one size more.
one_more : (P : ℕ → Type 0) (k : ℕ) → ((i : ℕ) → i < k → P i) → P k → (i : ℕ) → i < k + 1 → P i
one_more P k before here i less = step (ltb i k) refl
  where
    step : (b : Bool) → ltb i k ≡ b → P i
    step true e = before i (ltb-true i k e)
    step false e =
        let over = ltb-false i k e in
        let place : i ≡ k = omega arith in
        subst P (sym place) here

-- What the next size is not: lower than h, and narrower than the best.
abbrev NoBetter : List Item → ℕ → ℕ → Option (ℕ × Size) → Type 0
NoBetter s h k None = height (size_no s k) < h → ⊥
NoBetter s h k (Some b) = height (size_no s k) < h → NoWorse (held b.1) (size_no s k)

passed : (s : List Item) (h : ℕ) (best : Option (ℕ × Size)) (k : ℕ) → Best s h best k → k < length s → NoBetter s h k best → Best s h best (k + 1)
passed s h None k known more here =
    record { inside = omega arith; seen = one_more (λ (i : ℕ). height (size_no s i) < h → ⊥) k known.seen here }
passed s h (Some b) k known more here =
    let taken = known.seen.0 in
    record {
      inside = omega arith;
      seen = (
        record { seen = (let e = taken.seen in omega arith); same = taken.same; lower = taken.lower; first = taken.first },
        one_more (λ (i : ℕ). height (size_no s i) < h → NoWorse (held b.1) (size_no s i)) k known.seen.1 here,
      );
    }

-- The next size is lower than h.
module _ (s : List Item) (h : ℕ) (z : Size) (k : ℕ) (more : k < length s) (here : held z ≡ size_no s k) (low : z.height < h) where
  itself : height (size_no s k) < h → NoWorse (held z) (size_no s k)
  itself lower = subst (NoWorse (held z)) here (record { no_wider = omega arith; not_taller = λ same. omega arith })

  took : ((i : ℕ) → i < k → size_no s i ≡ held z → ⊥) → BestOf s h k (held z) → Best s h (Some (k, z)) (k + 1)
  took fresh still =
      record {
        inside = omega arith;
        seen = (
          record { seen = omega arith; same = here; lower = low; first = fresh },
          one_more (λ (i : ℕ). height (size_no s i) < h → NoWorse (held z) (size_no s i)) k still itself,
        );
      }

  -- It is the first that is,
  took_first : Best s h None k → Best s h (Some (k, z)) (k + 1)
  took_first known =
      took (λ i less same. let m_same = ap height same in known.seen i less (omega arith))
      (λ i less lower. absurd (known.seen i less lower))

  -- or it is narrower than the best.
  module _ (b : ℕ × Size) (known : Best s h (Some b) k) (test : narrower (held z) (held b.1) ≡ true) where
    better : Narrower (held z) (held b.1)
    better = narrower_true (held z) (held b.1) test

    -- It is no worse than what the best is no worse than.
    still : (y : Item) → NoWorse (held b.1) y → NoWorse (held z) y
    still y worse =
        record {
          no_wider = omega (arith, better.no_wider, worse.no_wider);
          not_taller = λ same.
              let wide = better.no_wider in
              let first = better.lower (omega arith) in
              let second = worse.not_taller (omega arith) in
              omega arith;
        }

    -- No equal size was looked at before: the best would be no worse than it.
    fresh : (i : ℕ) → i < k → size_no s i ≡ held z → ⊥
    fresh i less same =
        let m_same = ap height same in
        let p_same = ap width same in
        let worse = known.seen.1 i less (omega arith) in
        let wide = better.no_wider in
        let first = better.lower (omega arith) in
        let second = worse.not_taller (omega arith) in
        omega arith

    took_narrower : Best s h (Some (k, z)) (k + 1)
    took_narrower = took fresh (λ i less lower. still (size_no s i) (known.seen.1 i less lower))

-- All sizes are looked at: the size that is taken is the narrowest of all that are lower.
found : (s : List Item) (h k : ℕ) (b : ℕ × Size) → Best s h (Some b) k → length s ≤ k → Narrowest s h b.0
found s h k b known done =
    let taken = known.seen.0 in
    let m_same = ap height taken.same in
    let p_same = ap width taken.same in
    let seen = taken.seen in
    let inside = known.inside in
    record {
      inside = omega arith;
      lower = omega (arith, taken.lower);
      narrowest = λ i less low. omega (arith, (known.seen.1 i (omega arith) low).no_wider);
      lowest = λ i less low same. let worse = (known.seen.1 i (omega arith) low).not_taller (omega arith) in omega arith;
      first = λ i less same. taken.first i less (same ∙ sym taken.same);
    }

module _ (bytes : List ℕ) (count h : ℕ) where
  abbrev s : List Item
  s = sizes_in count bytes

  as_many : length s ≡ count
  as_many = in_length count bytes

  pub none_seen : Best s h None 0
  none_seen = record { inside = omega arith; seen = λ i less. absurd (omega arith) }

  module _ (z : Size) (k : ℕ) (more : k < count) (read : SizeIn bytes k z) where
    here : held z ≡ size_no s k
    here = read.same count more

    took_better : (b : Bool) (best : Size) (place : ℕ) → Best s h (cond b (Some (place, best)) None) k → z.height < h → narrower (held z) (held best) ≡ true → Best s h (Some (k, z)) (k + 1)
    took_better true best place known low test = took_narrower s h z k (omega (arith, as_many)) here low (place, best) known test
    took_better false best place known low test = took_first s h z k (omega (arith, as_many)) here low known

    pub seen_better : (best : Size) (place : ℕ) (t : Bool) → Best s h (chosen place best) k → z.height < h → t ≡ narrower (held z) (held best) → t ≡ true → Best s h (chosen k z) (k + 1)
    seen_better best place t known low says holds =
        rw (lt-ltb z.width 65_536 read.width_fits) (took_better (ltb best.width 65_536) best place known low (sym says ∙ holds))

    pub seen_tall : (best : Option (ℕ × Size)) → Best s h best k → h ≤ z.height → Best s h best (k + 1)
    seen_tall None known tall = passed s h None k known (omega (arith, as_many)) (λ low. let same = ap height here in omega arith)
    seen_tall (Some b) known tall =
        passed s h (Some b) k known (omega (arith, as_many)) (λ low. let same = ap height here in absurd (omega arith))

    passed_worse : (b : Bool) (best : Size) (place : ℕ) → ltb best.width 65_536 ≡ b → Best s h (cond b (Some (place, best)) None) k → narrower (held z) (held best) ≡ false → Best s h (cond b (Some (place, best)) None) (k + 1)
    passed_worse true best place e known test =
        passed s h (Some (place, best)) k known (omega (arith, as_many))
        (λ low. subst (NoWorse (held best)) here (narrower_false (held z) (held best) test))
    passed_worse false best place e known test =
        let wide = ltb-false best.width 65_536 e in
        let fits = read.width_fits in
        let less : z.width < best.width = omega arith in
        absurd (true≢false (sym (lt-ltb _ _ less) ∙ narrower_yes z.height z.width best.height best.width less ∙ test))

    pub seen_worse : (best : Size) (place : ℕ) (t : Bool) → Best s h (chosen place best) k → t ≡ narrower (held z) (held best) → t ≡ false → Best s h (chosen place best) (k + 1)
    seen_worse best place t known says fails =
        passed_worse (ltb best.width 65_536) best place refl known (sym says ∙ fails)

  pub all_seen : (best : Option (ℕ × Size)) (k : ℕ) → Best s h best k → count ≤ k → NextBelow s h best
  all_seen None k known done = λ i less. lower_no (ltb (height (size_no s i)) h) i refl less
    where
      lower_no : (t : Bool) (i : ℕ) → ltb (height (size_no s i)) h ≡ t → i < length s → h ≤ height (size_no s i)
      lower_no true i e less = absurd (known.seen i (omega (arith, as_many)) (ltb-true _ h e))
      lower_no false i e less = ltb-false _ h e
  all_seen (Some (place, z)) k known done = (found s h k (place, z) known (omega (arith, as_many)), known.seen.0.same)
