-- The list of a gauge as one word: the numbers of its sizes within the gauge, in the order of the list, as hexadecimal digits. No public contract cites it.
use Rattle.std.specs.Prelude.{◌≡◌, List, [], ◌∷◌, map, ℕ, zero, suc, ◌+◌, ◌*◌, ◌≤◌, ◌<◌, length, take}
use Rattle.slicing.specs.Item.{Item}
use Rattle.slicing.specs.Useful.{index_of, gauge_shapes}
use Rattle.sizes.specs.inside.Sizes.{Sized}

-- The bytes of a gauge's sizes, of which there are 1 to 8.
pub record GaugeBytes (count : ℕ) (bytes : List ℕ) : Type 0 where
  pub sized : Sized count bytes
  pub some : 1 ≤ count
  pub few : count ≤ 8

-- Where the sizes of the list stand among the printed sizes, counted from 0: of equal pairs the lowest.
unfoldable pub list_places : List Item → List ℕ
list_places s = map (λ (z : Item). index_of z s) (gauge_shapes s)

-- A word with more hexadecimal digits behind it, one for each place: the number of the size there, counted from 1.
unfoldable pub digits : ℕ → List ℕ → ℕ
digits w [] = w
digits w (k ∷ l) = digits (16 * w + (k + 1)) l

-- The word of the first i places. No digit is 0, so it is 0 only where i is.
abbrev pub first_digits : List ℕ → ℕ → ℕ
first_digits l i = digits 0 (take i l)

-- The word of a gauge's list.
unfoldable pub order_word : List Item → ℕ
order_word s = digits 0 (list_places s)

-- The word of n sizes that stand in order: the numbers 1 to n.
unfoldable pub counting_word : ℕ → ℕ
counting_word zero = 0
counting_word (suc n) = 16 * counting_word n + (n + 1)

-- The word of a gauge of at most 8 sizes, how many items its list has, and one of the places of the list.
pub record InOrder (s : List Item) (order count place : ℕ) : Type 0 where
  pub few : length s ≤ 8
  pub order_is : order ≡ order_word s
  pub count_is : count ≡ length (gauge_shapes s)
  pub in_list : place < count
