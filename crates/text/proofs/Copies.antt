-- Values that are copied to a place of a buffer are appended there.
-- The copy leaves what stands before them and after them, as storing them one by one does.
use mathlib.Core.Path.{◌≡◌, sym, ap₂, ◌∙◌}
use mathlib.Core.List.{List, ◌++◌, append_assoc}
use Prim.Native.Nat.{ℕ, ◌+◌, ◌-◌, ◌≤◌}
use native.Mathlib.Omega.{arith}
use lib.ListN.{length, take, drop}
use lib.Seq.{sets-eq}
use borrow.Rule.Slice.PartMut.{put_mid, Post-is}
use Rattle.text.specs.inside.Appending.{Appended}

pub copied : {A : Type 0} (old : List A) (at : ℕ) (values part : List A) → at + length values ≤ length old → part ≡ values → Appended old at values (put_mid at (at + length values - at) old part) (at + length values)
copied {A} old at values part room same =
    record {
      place = omega arith;
      text =
          ap₂ (λ (l : List A) (r : List A). take at old ++ (l ++ r)) same (Post-is at (at + length values) old (omega arith))
          ∙ sym (append_assoc (take at old) values (drop (at + length values) old))
          ∙ sym (sets-eq values old at room);
    }
