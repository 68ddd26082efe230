-- Document 01's reading call: "m and true p of the k-th item, counted from 1 on the walk by forward 1". Document 02, paper 6: "Reading takes a place from either end".
use Rattle.std.specs.Prelude.{ℕ, ◌-◌, ◌&&◌, List, reverse, length, nat_le, slice_index_or}
use Rattle.checks.specs.declared.Check.TheVariants.{Buffers, Place}
use Rattle.checks.specs.Limits.{buffer_words}
use Rattle.checks.specs.Answer.{Answer, taken, ask, next, number, outcome}
use Rattle.slicing.specs.Item.{Item, size}
use Rattle.slicing.specs.Recorded.{items}
use Rattle.arena.specs.Lazy.{lazy_list}
use Rattle.maxplus.specs.declared.Reading.{Reading}

-- "is the arena 16,384 words or more? 17. Does it hold a lazy list? 20. Is the place from 1 to its length? 21."
unfoldable pub read_item : List ℕ → ℕ → Answer Item
read_item a place =
    ask (nat_le buffer_words (length a)) Buffers
    (next (lazy_list a)
    (λ l. ask (nat_le 1 place && nat_le place (length l)) Place (taken (slice_index_or (items l) (place - 1) (size 0 0)))))

-- "the k-th from the low end is the item that a full reading from the top puts there": the k-th of the items from the last to the first. The checks are the same.
unfoldable pub read_low : List ℕ → ℕ → Answer Item
read_low a place =
    ask (nat_le buffer_words (length a)) Buffers
    (next (lazy_list a)
    (λ l. ask (nat_le 1 place && nat_le place (length l)) Place (taken (slice_index_or (reverse (items l)) (place - 1) (size 0 0)))))

-- How many items the list of an arena has, and 0 where the arena holds none.
abbrev pub count_of : List ℕ → ℕ
count_of a = outcome (lazy_list a) 0 length

-- What either call answers: the number, and m and true p, which are 0 where it is not taken.
abbrev pub reading : Answer Item → Reading
reading r = record { number = number r; m = outcome r 0 (λ z. z.m); p = outcome r 0 (λ z. z.p) }
