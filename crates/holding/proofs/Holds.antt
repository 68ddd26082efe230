-- A list of records that is linked at record 0, with right back words, in records of 1 to 512 and at most as many, and ordered is what check 20 asks for.
-- The chain gives the walk one record at a time, each record's links, level and back word are those that the check tests, and an item before all later ones is before the next.
use mathlib.Core.Path.{◌≡◌, refl, ap, ◌∙◌}
use mathlib.Core.Bool.{true}
use mathlib.Core.List.Memᴰ
use mathlib.Core.List.{List, [], ◌∷◌}
use Prim.Native.Nat.{ℕ, zero, suc, ◌≤◌, ◌<◌}
use native.Mathlib.Omega.{arith}
use lib.ListN.{length}
use borrow.Author.Tests.{lt-ltb, le-leb, eq-eqb}
use Rattle.checks.specs.Answer.{taken}
use Rattle.slicing.specs.Good.{Ordered}
use Rattle.slicing.specs.Recorded.{Recorded, items}
use Rattle.arena.specs.Arena.{level, forward, back}
use Rattle.arena.specs.Lazy.{next_with, last_with, held, walk, links_right, linked, falling, backs_right, lazy_list}
use Rattle.arena.specs.inside.Chain.{All, Chain, Linked}
use Rattle.arena.specs.inside.Backs.{Backs, last_of, Backed}
use Rattle.arena.proofs.Walking.{next_none, next_first, next_second}
use Rattle.holding.proofs.Following.{each, links_all, walk_back, walk_stops}
use Rattle.holding.proofs.Answering.{under_first, rest_lazy}

chain_walk : (most : ℕ) (a rs : List ℕ) → Chain a rs → All (λ x. x ≤ 512) rs → length rs ≤ most → walk most a (next_with a 0 rs) ≡ taken rs
chain_walk most a [] c low few = walk_stops a most (next_with a 0 []) (next_none a)
chain_walk zero a (r ∷ rs) c low few = absurd (omega arith)
chain_walk (suc most) a (r ∷ rs) c low few =
    let some = c.0.some in
    ap (walk (suc most) a) (next_first a r rs c.0)
    ∙ walk_back a most r rs (λ e. omega arith) low.0
    (ap (walk most a) (next_second a r rs c.0) ∙ chain_walk most a rs c.1 low.1 (omega arith))

chain_linked : (a rs : List ℕ) → Chain a rs → linked a rs ≡ true
unfolding linked
chain_linked a [] c = refl
chain_linked a (r ∷ rs) c =
    each _ _ (le-leb 1 (level a r) c.0.low)
    (each _ _ (le-leb (level a r) 8 c.0.high)
    (each (links_right a r rs (level a r)) (linked a rs) (links_all a r rs (level a r) c.0.links.at) (chain_linked a rs c.1)))

ordered_falling : (l : List Recorded) → Ordered (items l) → falling l ≡ true
unfolding falling
ordered_falling [] o = refl
ordered_falling (x ∷ []) o = refl
ordered_falling (x ∷ y ∷ l) o =
    let next = o.0 y.item (Memᴰ.head refl) in
    each _ _ (lt-ltb y.item.m x.item.m next.0)
    (each _ _ (lt-ltb x.item.p y.item.p next.1) (ordered_falling (y ∷ l) o.1))

backs_right_of : (a : List ℕ) (before : ℕ) (rs : List ℕ) → Backs a before rs → back a 0 ≡ last_of before rs → backs_right a before rs ≡ true
unfolding backs_right last_of
backs_right_of a before [] b head = eq-eqb (back a 0) before head
backs_right_of a before (r ∷ rs) b head =
    each _ (backs_right a r rs) (eq-eqb (back a r) before b.0) (backs_right_of a r rs b.1 head)

pub holds_lazy : (a : List ℕ) (rs : List ℕ) → Linked a 0 rs → Backed a 0 rs → All (λ x. x ≤ 512) rs → length rs ≤ 512 → Ordered (items (held a 0 [] rs)) → lazy_list a ≡ taken (held a 0 [] rs)
unfolding last_with last_of
holds_lazy a rs l b low few o =
    let top = l.top in
    let links : (k : ℕ) → k < 8 → forward a 0 k ≡ next_with a k rs = λ k h. l.links.at k (omega arith) in
    rest_lazy a top rs
    (record {
      walks = ap (walk 512 a) (links 0 (omega arith)) ∙ chain_walk 512 a rs l.chain low few;
      links = links;
      chain = chain_linked a rs l.chain;
      falls = ordered_falling (held a 0 [] rs) o;
      under = under_first (held a 0 [] rs);
      backs = backs_right_of a 0 rs b.backs b.head;
    })
