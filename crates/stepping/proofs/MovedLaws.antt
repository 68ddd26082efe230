-- A run whose true p are raised by q is what the merge makes of it against an item whose p and the gap are q, and this is what the open list carries once the run was moved behind it.
-- A sum of two true p and the gap that stays below 2^32 is its own remainder.
use mathlib.Core.Path.{◌≡◌, refl, ap, ap₂, ◌∙◌}
use mathlib.Core.List.{List, [], ◌∷◌, ◌++◌, map, Memᴰ}
use Prim.Native.Nat.{ℕ, ◌+◌, ◌%◌, ◌^◌, ◌<◌}
use native.Mathlib.Nat.{mod-eq_of_lt}
use native.Mathlib.Omega.{arith}
use Rattle.slicing.specs.Item.{size}
use Rattle.slicing.specs.Recorded.{Recorded}
use Rattle.slicing.proofs.Batch.{raised_older, raised_newer}
use Rattle.arena.specs.Arena.{m_word}
use Rattle.arena.specs.inside.Chain.{wrap, trues}
use Rattle.arena.specs.inside.Carried.{paired, carried}
use Rattle.arena.proofs.Frames.{all_refl}
use Rattle.arena.proofs.CarriedLaws.{trues_length, paired_append, paired_frame}

-- Each p of a list of items, with q, stays below 2^32.
abbrev pub Below : ℕ → List Recorded → Type 0
Below q l = (x : Recorded) → Memᴰ x l → x.item.p + q < 2 ^ 32

paired_older : (gap : ℕ) (a : List ℕ) (b : Recorded) (rs ps : List ℕ) → Below (b.item.p + gap) (paired a rs ps) → paired a rs (map (λ (t : ℕ). wrap t (b.item.p + gap)) ps) ≡ raised_older gap b (paired a rs ps)
unfolding raised_older wrap
paired_older gap a b [] ps h = refl
paired_older gap a b (r ∷ rs) [] h = refl
paired_older gap a b (r ∷ rs) (p ∷ ps) h =
    let small = h (record { number = r; item = size (m_word a r) p }) (Memᴰ.head refl) in
    let sum : (p + (b.item.p + gap)) % 2 ^ 32 ≡ p + gap + b.item.p = mod-eq_of_lt small ∙ omega arith in
    ap₂ (λ (t : ℕ) (l : List Recorded). record { number = r; item = size (m_word a r) t } ∷ l) sum
    (paired_older gap a b rs ps (λ x i. h x (Memᴰ.tail i)))

paired_newer : (gap : ℕ) (a : List ℕ) (b : Recorded) (rs ps : List ℕ) → Below (b.item.p + gap) (paired a rs ps) → paired a rs (map (λ (t : ℕ). wrap t (b.item.p + gap)) ps) ≡ raised_newer gap b (paired a rs ps)
unfolding raised_newer wrap
paired_newer gap a b [] ps h = refl
paired_newer gap a b (r ∷ rs) [] h = refl
paired_newer gap a b (r ∷ rs) (p ∷ ps) h =
    let small = h (record { number = r; item = size (m_word a r) p }) (Memᴰ.head refl) in
    let sum : (p + (b.item.p + gap)) % 2 ^ 32 ≡ b.item.p + gap + p = mod-eq_of_lt small ∙ omega arith in
    ap₂ (λ (t : ℕ) (l : List Recorded). record { number = r; item = size (m_word a r) t } ∷ l) sum
    (paired_newer gap a b rs ps (λ x i. h x (Memᴰ.tail i)))

-- What the open list carries after a run was moved behind it.
module _ (gap : ℕ) (a b : List ℕ) (f g h : ℕ → ℕ) (cs fr : List ℕ) (z : Recorded) (same : (x : ℕ) → m_word b x ≡ m_word a x) (values : trues b g (cs ++ fr) ≡ trues a f cs ++ map (λ (t : ℕ). wrap t (z.item.p + gap)) (trues a h fr)) (below : Below (z.item.p + gap) (carried a h fr)) where
  moved_pairs : carried b g (cs ++ fr) ≡ carried a f cs ++ paired a fr (map (λ (t : ℕ). wrap t (z.item.p + gap)) (trues a h fr))
  unfolding carried
  moved_pairs =
      paired_frame a b (cs ++ fr) (trues b g (cs ++ fr)) (all_refl (cs ++ fr) same) ∙ ap (paired a (cs ++ fr)) values
      ∙ paired_append a cs fr (trues a f cs) (map (λ (t : ℕ). wrap t (z.item.p + gap)) (trues a h fr)) (trues_length a f cs)

  pub moved_older : carried b g (cs ++ fr) ≡ carried a f cs ++ raised_older gap z (carried a h fr)
  unfolding carried
  moved_older = moved_pairs ∙ ap (λ (l : List Recorded). carried a f cs ++ l) (paired_older gap a z fr (trues a h fr) below)

  pub moved_newer : carried b g (cs ++ fr) ≡ carried a f cs ++ raised_newer gap z (carried a h fr)
  unfolding carried
  moved_newer = moved_pairs ∙ ap (λ (l : List Recorded). carried a f cs ++ l) (paired_newer gap a z fr (trues a h fr) below)
