-- The walk by the first link from a place of a list: how many records it meets, and that no other list is met.
-- Each record of a chain has that link, so that the walk meets the records of the chain one by one and ends at 0.
use Rattle.std.proofs.Common.{◌≡◌, ℕ, zero, suc, ◌≤◌, List, [], ◌∷◌, length, sym, refl, ap, ◌∙◌, ap₂, arith}
use Rattle.arena.specs.Arena.{forward}
use Rattle.arena.specs.Lazy.{next_with}
use Rattle.arena.specs.inside.Chain.{Member, Chain, Linked}
use Rattle.arena.proofs.Frames.{next_here}

-- The records on the walk from record x, of which at most `most` are counted.
abbrev pub count : ℕ → List ℕ → ℕ → ℕ
count zero a x = 0
count (suc most) a zero = 0
count (suc most) a (suc x) = suc (count most a (forward a (suc x) 0))

count_end : (most : ℕ) (a : List ℕ) → count most a 0 ≡ 0
count_end zero a = refl
count_end (suc most) a = refl

count_step : (most : ℕ) (a : List ℕ) (x : ℕ) → 1 ≤ x → count (suc most) a x ≡ suc (count most a (forward a x 0))
count_step most a zero p = absurd (omega arith)
count_step most a (suc x) p = refl

pub next_none : (a : List ℕ) → next_with a 0 [] ≡ 0
unfolding next_with
next_none a = refl

module _ (a : List ℕ) (r : ℕ) (rs : List ℕ) (m : Member a r rs) where
  pub next_first : next_with a 0 (r ∷ rs) ≡ r
  next_first = next_here a 0 r rs m.low

  pub next_second : forward a r 0 ≡ next_with a 0 rs
  next_second = m.links.at 0 m.low

pub count_is : (most : ℕ) (a : List ℕ) (rs : List ℕ) (x : ℕ) → Chain a rs → x ≡ next_with a 0 rs → length rs ≤ most → count most a x ≡ length rs
count_is most a [] x c e few = ap (count most a) (e ∙ next_none a) ∙ count_end most a
count_is zero a (r ∷ rs) x c e few = absurd (omega arith)
count_is (suc most) a (r ∷ rs) x c e few =
    ap (count (suc most) a) (e ∙ next_first a r rs c.0) ∙ count_step most a r c.0.some
    ∙ ap suc (count_is most a rs (forward a r 0) c.1 (next_second a r rs c.0) (omega arith))

-- Two chains that begin with the same record are the same.
pub one_chain : (a : List ℕ) (rs ss : List ℕ) → Chain a rs → Chain a ss → next_with a 0 rs ≡ next_with a 0 ss → rs ≡ ss
one_chain a [] [] c d e = refl
one_chain a [] (s ∷ ss) c d e =
    let f = next_none a in
    let g = next_first a s ss d.0 in
    let some = d.0.some in
    absurd (omega arith)
one_chain a (r ∷ rs) [] c d e =
    let f = next_none a in
    let g = next_first a r rs c.0 in
    let some = c.0.some in
    absurd (omega arith)
one_chain a (r ∷ rs) (s ∷ ss) c d e =
    let same : r ≡ s = sym (next_first a r rs c.0) ∙ e ∙ next_first a s ss d.0 in
    ap₂ ◌∷◌ same
    (one_chain a rs ss c.1 d.1
    (sym (next_second a r rs c.0) ∙ ap (λ (x : ℕ). forward a x 0) same ∙ next_second a s ss d.0))

-- An arena holds one list of a head.
pub one_list : (a : List ℕ) (h : ℕ) (rs ss : List ℕ) → Linked a h rs → Linked a h ss → rs ≡ ss
one_list a h rs ss l m =
    let top = l.top in
    one_chain a rs ss l.chain m.chain (sym (l.links.at 0 (omega arith)) ∙ m.links.at 0 (omega arith))
