-- The whole merge of an older and a newer list, with a gap: what it asks, and what the arena holds after it. No public contract cites it.
use Rattle.std.specs.Prelude.{◌≡◌, ℕ, ◌+◌, ◌^◌, ◌≤◌, ◌<◌, length}
use mathlib.Core.List.{List, [], Memᴰ}
use Rattle.checks.specs.Limits.{most_sizes}
use Rattle.slicing.specs.Good.{Ordered}
use Rattle.slicing.specs.Recorded.{Recorded, merge_recorded, items}
use Rattle.arena.specs.Arena.{level, back}
use Rattle.arena.specs.Lazy.{held}
use Rattle.arena.specs.inside.Chain.{Has, All, Away, Same}
use Rattle.arena.specs.inside.Built.{Built}
use Rattle.arena.specs.inside.Backs.{Backs, Inner, last_of}
use Rattle.stepping.specs.inside.Trio.{Roomy}

-- The lists xs and ys of the heads ho and hn, whose adjusts are 0, share nothing and hc is apart from both; they are ordered, no sum of a p of each and the gap leaves 32 bits, the way back along each is right, and the number of each record fits a word.
pub record Mergeable (gap : ℕ) (a : List ℕ) (ho hn hc : ℕ) (xs ys : List ℕ) : Type 0 where
  pub older : Built a ho xs
  pub newer : Built a hn ys
  pub result_has : Has a hc
  pub older_newer : ho ≡ hn → ⊥
  pub older_result : ho ≡ hc → ⊥
  pub newer_result : hn ≡ hc → ⊥
  pub older_off_newer : Away ho ys
  pub newer_off_older : Away hn xs
  pub result_off_older : Away hc xs
  pub result_off_newer : Away hc ys
  pub lists_apart : All (λ x. Away x ys) xs
  pub older_few : length xs ≤ most_sizes
  pub newer_few : length ys ≤ most_sizes
  pub older_order : Ordered (items (held a ho [] xs))
  pub newer_order : Ordered (items (held a hn [] ys))
  pub small : (x y : Recorded) → Memᴰ x (held a ho [] xs) → Memᴰ y (held a hn [] ys) → x.item.p + gap + y.item.p < 2 ^ 32
  pub older_room : All (Roomy a) xs
  pub newer_room : All (Roomy a) ys
  pub older_backs : Inner a xs
  pub newer_backs : Inner a ys
  pub older_fits : All (λ x. x < 4_294_967_296) xs
  pub newer_fits : All (λ x. x < 4_294_967_296) ys
  pub result_fits : hc < 4_294_967_296

-- The head hc has the record-carrying merge of the two lists. Free are the heads ho and hn, and of the records of the two lists all words but the level, except as the new list says.
pub record Merged (gap : ℕ) (a b : List ℕ) (ho hn hc : ℕ) (xs ys : List ℕ) : Type 0 where
  pub length_kept : length b ≡ length a
  pub list : List ℕ
  pub built : Built b hc list
  pub backs : Backs b hc list
  pub last : back b hc ≡ last_of hc list
  pub holds : held b hc [] list ≡ merge_recorded gap (held a ho [] xs) (held a hn [] ys)
  pub level_kept : (x : ℕ) → (x ≡ hc → ⊥) → level b x ≡ level a x
  pub records : (x : ℕ) → Away x xs → Away x ys → Away x list
  pub outside : (x : ℕ) → (ho ≡ x → ⊥) → (hn ≡ x → ⊥) → (hc ≡ x → ⊥) → Away x xs → Away x ys → Same a b x
