-- The answer to a file hangs on its first 2,247 bytes alone, so that a program can read a file into a fixed buffer.
-- The header is 7 bytes, and the entries look at most at 127 kind bytes, at 33 bytes more for each of 64 gauges, and at one byte to see that none is left.
use mathlib.Core.Path.{◌≡◌, refl, sym, ◌∙◌}
use mathlib.Core.Bool.{Bool, true, false, cond}
use mathlib.Core.List.{List, [], ◌∷◌}
use Prim.Native.Nat.{ℕ, zero, suc, ◌+◌, ◌-◌, ◌*◌, ◌≤◌, ◌<◌}
use native.Mathlib.Nat.{sub-zero, zero-sub, suc-sub-suc}
use native.Mathlib.Omega.{arith}
use lib.ListN.{length, take, drop}
use lib.Seq.{get_or-take, take-nil}
use lib.Dec.{leb, ltb, eqb, leb-zero, leb-suc-suc, eqb-suc-zero}
use borrow.Author.Tests.{ltb-true}
use Rattle.checks.specs.declared.Check.{Check}
use Rattle.checks.specs.declared.Check.TheVariants.{SizeCount, Present, Gauges}
use Rattle.checks.specs.Answer.{Answer, refused, taken, ask, next}
use Rattle.checks.proofs.Answers.{next_next}
use Rattle.slicing.specs.Item.{Item}
use Rattle.slicing.specs.Tree.{Tree, gauge, beside, stacked}
use Rattle.sizes.specs.GaugeSizes.{field, within, size_at, version_rules, sizes_after, sizes_from}
use Rattle.entries.specs.Entry.{State, gauge_taken, gauge_sizes, gauge_entry, join_parts, join_entry, kind_entry, entry, entries}
use Rattle.facefile.specs.Format.{one_part, at_end, header, rules_of, start, face_of}
use Rattle.sizes.proofs.SizeChecks.{within_true}
use Rattle.entries.proofs.Took.{state}
use Rattle.facefile.proofs.Taken.{header_taken}

drop_take : (n m : ℕ) (l : List ℕ) → drop n (take m l) ≡ take (m - n) (drop n l)
drop_take zero m l = rw sub-zero
drop_take (suc n) zero l = rw zero-sub
drop_take (suc n) (suc m) [] = rw take-nil
drop_take (suc n) (suc m) (x ∷ l) = rw suc-sub-suc (drop_take n m l)

-- Whether n bytes are there is seen in the first n.
as_long : (n m : ℕ) (l : List ℕ) → n ≤ m → leb n (length (take m l)) ≡ leb n (length l)
as_long zero m l h = leb-zero (length (take m l)) ∙ sym (leb-zero (length l))
as_long (suc n) zero l h = absurd (omega arith)
as_long (suc n) (suc m) [] h = refl
as_long (suc n) (suc m) (x ∷ l) h = simp leb-suc-suc (as_long n m l (omega arith))

field_same : (m : ℕ) (l : List ℕ) (at : ℕ) → at + 1 < m → field (take m l) at ≡ field l at
field_same m l at h = rw (get_or-take m l at 0 (omega arith), get_or-take m l (at + 1) 0 h)

-- k sizes are seen in the first 4 * k bytes.
after_same : (v : ℕ) (y : Item) (k m : ℕ) (l : List ℕ) → 4 * k ≤ m → sizes_after (version_rules v) y k (take m l) ≡ sizes_after (version_rules v) y k l
unfolding sizes_after
after_same v y zero m l h = refl
after_same v y (suc k) m l h =
    simp
    (field_same m l 0 (omega arith), field_same m l 2 (omega arith), drop_take 4 m l, after_same v (size_at l) k (m - 4) (drop 4 l) (omega arith))

sizes_same : (v k m : ℕ) (l : List ℕ) → 4 * k ≤ m → sizes_from (version_rules v) k (take m l) ≡ sizes_from (version_rules v) k l
unfolding sizes_from
sizes_same v zero m l h = refl
sizes_same v (suc k) m l h =
    simp
    (field_same m l 0 (omega arith), field_same m l 2 (omega arith), drop_take 4 m l, after_same v (size_at l) k (m - 4) (drop 4 l) (omega arith))

-- f answers the same to the first m of the bytes left as to all of them, where m is enough for k entries, for the gauges that may still come, and for one byte more.
abbrev Same : ℕ → (State → Answer Tree) → Type 0
Same k f = (m : ℕ) (rest : List ℕ) (parts : List Tree) (g : ℕ) → k + 33 * (64 - g) + 1 ≤ m → f (state (take m rest) parts g) ≡ f (state rest parts g)

end_same : Same 0 at_end
unfolding at_end one_part
end_same zero rest parts g h = absurd (omega arith)
end_same (suc m) rest [] g h = refl
end_same (suc m) [] (t ∷ []) g h = refl
end_same (suc m) (x ∷ rest) (t ∷ []) g h = simp eqb-suc-zero
end_same (suc m) rest (t ∷ a ∷ parts) g h = refl

-- One entry more: f is what follows it.
module _ (v k : ℕ) (f : State → Answer Tree) (on : Same k f) where
  ask_same : (b d : Bool) (c : Check) (x y : Answer State) → b ≡ d → (d ≡ true → next x f ≡ next y f) → next (ask b c x) f ≡ next (ask d c y) f
  ask_same true d c x y e h = rw (← e) (h (sym e))
  ask_same false d c x y e h = rw (← e)

  either_same : (b : Bool) (x y z w : Answer State) → next x f ≡ next z f → next y f ≡ next w f → next (cond b x y) f ≡ next (cond b z w) f
  either_same true x y z w h i = h
  either_same false x y z w h i = i

  join_same : (cut : Tree → Tree → Tree) → Same k (λ s. next (join_entry cut s) f)
  unfolding join_entry join_parts
  join_same cut m rest [] g h = refl
  join_same cut m rest (b ∷ []) g h = refl
  join_same cut m rest (b ∷ a ∷ parts) g h = on m rest (cut a b ∷ parts) g h

  -- The sizes of a gauge take at most 32 bytes.
  gauge_sizes_same : (count m : ℕ) (rest : List ℕ) (parts : List Tree) (g : ℕ) → k + 33 * (64 - (g + 1)) + 33 ≤ m → next (gauge_sizes (version_rules v) count (state (take m rest) parts g)) f ≡ next (gauge_sizes (version_rules v) count (state rest parts g)) f
  unfolding gauge_sizes
  gauge_sizes_same count m rest parts g h =
      ask_same (within 1 8 count) (within 1 8 count) SizeCount _ _ refl (λ e.
      let most = (within_true 1 8 count e).1 in
      let room : 4 * count ≤ m = omega arith in
      ask_same (leb (4 * count) (length (take m rest))) (leb (4 * count) (length rest)) Present _ _ (as_long (4 * count) m rest room) (λ p.
      rw (sizes_same v count m rest room, drop_take (4 * count) m rest) (sized room most (sizes_from (version_rules v) count rest))))
    where
      sized : 4 * count ≤ m → count ≤ 8 → (a : Answer (List Item)) → next (next a (gauge_taken (state (take (m - 4 * count) (drop (4 * count) rest)) parts g))) f ≡ next (next a (gauge_taken (state (drop (4 * count) rest) parts g))) f
      sized room most (refused c) = refl
      sized room most (taken z) = on (m - 4 * count) (drop (4 * count) rest) (gauge z ∷ parts) (g + 1) (omega arith)

  gauge_same : Same k (λ s. next (gauge_entry (version_rules v) s) f)
  unfolding gauge_entry
  gauge_same zero rest parts g h = absurd (omega arith)
  gauge_same (suc m) [] parts g h = refl
  gauge_same (suc m) (count ∷ bytes) parts g h =
      ask_same (ltb g 64) (ltb g 64) Gauges _ _ refl (λ e.
      let few = ltb-true g 64 e in
      ask_same (ltb 0 (suc (length (take m bytes)))) (ltb 0 (suc (length bytes))) Present _ _ (as_long 1 (suc m) (count ∷ bytes) (omega arith))
      (λ p. gauge_sizes_same count m bytes parts g (omega arith)))

  entry_same : Same (suc k) (λ s. next (entry (version_rules v) s) f)
  unfolding entry kind_entry
  entry_same zero rest parts g h = absurd (omega arith)
  entry_same (suc m) [] parts g h = refl
  entry_same (suc m) (kind ∷ bytes) parts g h =
      let enough : k + 33 * (64 - g) + 1 ≤ m = omega arith in
      ask_same (ltb 0 (suc (length (take m bytes)))) (ltb 0 (suc (length bytes))) Present _ _ (as_long 1 (suc m) (kind ∷ bytes) (omega arith)) (λ p.
      either_same (eqb kind 0x01) _ _ _ _ (gauge_same m bytes parts g enough)
      (either_same (eqb kind 0x02) _ _ _ _ (join_same beside m bytes parts g enough)
      (either_same (eqb kind 0x03) _ _ _ _ (join_same stacked m bytes parts g enough) refl)))

entries_same : (v k : ℕ) → Same k (λ s. next (entries (version_rules v) k s) at_end)
unfolding entries
entries_same v zero m rest parts g h = end_same m rest parts g h
entries_same v (suc k) m rest parts g h =
    next_next (entry (version_rules v) (state (take m rest) parts g)) (entries (version_rules v) k) at_end
    ∙ entry_same v k (λ s. next (entries (version_rules v) k s) at_end) (entries_same v k) m rest parts g h
    ∙ sym (next_next (entry (version_rules v) (state rest parts g)) (entries (version_rules v) k) at_end)

header_same : (m : ℕ) (s : List ℕ) → 7 ≤ m → header (take m s) ≡ header s
unfolding header
header_same m s h =
    simp
    (as_long 7 m s h, get_or-take m s 0 0 (omega arith), get_or-take m s 1 0 (omega arith), get_or-take m s 2 0 (omega arith), field_same m s 3 (omega arith), field_same m s 5 (omega arith))

pub face_prefix : (s : List ℕ) → face_of (take 2_247 s) ≡ face_of s
unfolding face_of
face_prefix s = rw (header_same 2_247 s (omega arith)) (by (header s) refl)
  where
    by : (a : Answer ℕ) → header s ≡ a → next a (λ count. next (entries (rules_of (take 2_247 s)) count (start (take 2_247 s))) at_end) ≡ next a (λ count. next (entries (rules_of s) count (start s)) at_end)
    by (refused c) e = refl
    by (taken count) e =
        let head = header_taken s count e in
        let most = head.0.most in
        rw (field_same 2_247 s 3 (omega arith), drop_take 7 2_247 s) (entries_same (field s 3) count 2_240 (drop 7 s) [] 0 (omega (arith, head.1)))
