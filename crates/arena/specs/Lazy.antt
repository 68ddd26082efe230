-- Document 01, "Lazy lists", and document 02, paper 6: what a list of records in an arena holds, and when it is a lazy list.
use Rattle.std.specs.Prelude.{ℕ, zero, suc, ◌+◌, ◌%◌, ◌^◌, Bool, true, cond, ◌&&◌, List, [], ◌∷◌, ◌++◌, ◌==◌, nat_le, nat_lt}
use Rattle.checks.specs.declared.Check.TheVariants.{LazyList}
use Rattle.checks.specs.Limits.{most_sizes}
use Rattle.checks.specs.Answer.{Answer, refused, taken, ask, next}
use Rattle.slicing.specs.Recorded.{Recorded}
use Rattle.arena.specs.Arena.{level, m_word, p_word, forward, adjust, back}

-- "the number of the next record on the list with level i or more, and 0 for none": the first of rs that has link k.
unfoldable pub next_with : List ℕ → ℕ → List ℕ → ℕ
next_with a k [] = 0
next_with a k (r ∷ rs) = cond (nat_lt k (level a r)) r (next_with a k rs)

-- "the last record before it with level i or more, the head included": the last of h and rs that has link k.
unfoldable pub last_with : List ℕ → ℕ → ℕ → List ℕ → ℕ
last_with a k h [] = h
last_with a k h (r ∷ rs) = last_with a k (cond (nat_lt k (level a r)) r h) rs

-- The sum of f over the links from l up to n.
unfoldable pub sum_from : (ℕ → ℕ) → ℕ → ℕ → ℕ
sum_from f l zero = 0
sum_from f l (suc n) = sum_from f l n + cond (nat_le l n) (f n) 0

-- "The true p of an item is its stored p plus, for every i above its level, adjust i of the last record before it with level i or more, the head included. These sums are taken modulo 4,294,967,296."
unfoldable pub true_p : List ℕ → ℕ → List ℕ → ℕ → ℕ
true_p a h before r = (p_word a r + sum_from (λ k. adjust a (last_with a k h before) k) (level a r) 8) % 2 ^ 32

-- The items of the records rs, which follow the head h and the records before them.
unfoldable pub held : List ℕ → ℕ → List ℕ → List ℕ → List Recorded
held a h before [] = []
held a h before (r ∷ rs) =
    record { number = r; item = record { m = m_word a r; p = true_p a h before r } } ∷ held a h (before ++ (r ∷ [])) rs

-- "the walk by forward 1 meets at most 512 records numbered 1 to 512 and ends at 0": the records from r on, of which there are at most `most`.
unfoldable pub walk : ℕ → List ℕ → ℕ → Answer (List ℕ)
walk zero a zero = taken []
walk zero a (suc r) = refused LazyList
walk (suc most) a zero = taken []
walk (suc most) a (suc r) =
    ask (nat_le (suc r) most_sizes) LazyList (next (walk most a (forward a (suc r) 0)) (λ rs. taken (suc r ∷ rs)))

-- "every forward up to a record's level is as said": the first n links of r, before the records rs.
unfoldable pub links_right : List ℕ → ℕ → List ℕ → ℕ → Bool
links_right a r rs zero = true
links_right a r rs (suc n) = links_right a r rs n && forward a r n == next_with a n rs

-- "their levels are 1 to 8, every forward up to a record's level is as said"
unfoldable pub linked : List ℕ → List ℕ → Bool
linked a [] = true
linked a (r ∷ rs) = nat_le 1 (level a r) && (nat_le (level a r) 8 && (links_right a r rs (level a r) && linked a rs))

-- "m falls and true p rises strictly"
unfoldable pub falling : List Recorded → Bool
falling [] = true
falling (x ∷ []) = true
falling (x ∷ y ∷ l) = nat_lt y.item.m x.item.m && (nat_lt x.item.p y.item.p && falling (y ∷ l))

-- "Word 19 is the record before it on the list; in the first item it is 0, and in the head it is the last item, or 0 for an empty list": the back words of the records rs, which come after the record `before`, and then the head's.
unfoldable pub backs_right : List ℕ → ℕ → List ℕ → Bool
backs_right a before [] = back a 0 == before
backs_right a before (r ∷ rs) = back a r == before && backs_right a r rs

-- "An arena holds a lazy list if record 0 has level 8," and all of the above: the items that it holds. "A lazy list in check 20 now has right back words as well."
unfoldable pub lazy_list : List ℕ → Answer (List Recorded)
lazy_list a =
    ask (level a 0 == 8) LazyList
    (next (walk most_sizes a (forward a 0 0))
    (λ rs.
    ask (links_right a 0 rs 8 && (linked a rs && (falling (held a 0 [] rs) && backs_right a 0 rs))) LazyList (taken (held a 0 [] rs))))
