-- What the loop keeps that puts a record's links before a list and renews the sums by its adjusts.
-- The adjust that is read at a turn is that of a link which is not put before the list yet, so it is as it was at the start.
use Rattle.std.proofs.Common.{◌≡◌, ℕ, ◌+◌, ◌-◌, ◌%◌, ◌^◌, ◌<◌, ◌≤◌, List, get_or, set, ◌∙◌, arith}
use Rattle.arena.specs.Arena.{level, adjust}
use Rattle.building.specs.inside.Building.{hook1, Hooked}
use Rattle.arena.specs.inside.Sums.{Renewed}
use Rattle.turning.specs.inside.Turning.{Turnable1}
use Rattle.arena.proofs.Summing.{word_above, Renewing, renewing_start, renewing_more, passing_done}
use Rattle.building.proofs.HookLaws.{Prepending, prepending_start, prepending_more, prepending_done}

-- The links from l up are put before the list, and the sums from l up are those after the record.
pub record LinkTurning (a : List ℕ) (h r : ℕ) (sums b left : List ℕ) (l : ℕ) : Type 0 where
  pub links : Prepending a h r b l
  pub renewing : Renewing (adjust a r) (level a r) sums left l

module _ (a : List ℕ) (h r : ℕ) (sums : List ℕ) (can : Turnable1 a h r sums) where
  pub links_start : (v l : ℕ) → v ≡ level a r → l ≡ v → LinkTurning a h r sums a sums l
  links_start v l v_is l_is =
      record {
        links = prepending_start a h r v l can.summable.low v_is l_is;
        renewing = renewing_start (adjust a r) (level a r) sums l can.summable.nine (l_is ∙ v_is);
      }

  pub links_more : (b left : List ℕ) (l : ℕ) → LinkTurning a h r sums b left l → 1 < l → (x v w : ℕ) (c : List ℕ) → x ≡ get_or left (l - 1 + 1) 0 → v ≡ adjust b r (l - 1) → w ≡ (x + v) % 2 ^ 32 → c ≡ hook1 b h r (l - 1) → LinkTurning a h r sums c (set left (l - 1) w) (l - 1)
  links_more b left l s some x v w c x_is v_is w_is e =
      let inside = s.links.inside in
      let high = can.summable.high in
      record {
        links = prepending_more a h r b c l can.hookable high s.links some e;
        renewing =
            renewing_more (adjust a r) (level a r) sums left l high s.renewing some x v w (x_is ∙ word_above left l some)
            (v_is ∙ s.links.hooks.old_adjust (l - 1) (omega arith) (omega arith)) w_is;
      }

  pub links_done : (b left : List ℕ) (l : ℕ) → LinkTurning a h r sums b left l → l ≤ 1 → Hooked 1 (level a r) a h r b × Renewed a r sums left
  links_done b left l s done =
      (prepending_done a h r b l s.links done, passing_done a r sums left l s.renewing done)
