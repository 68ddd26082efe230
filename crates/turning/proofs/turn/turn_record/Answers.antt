-- `turning::turn::turn_record` meets its contract.
-- Its first two stores are those of `swapped`, in the same order, and the links and the sums are those that `turn_links` leaves.
use Rattle.turning.proofs.Swaps.{stored_can, stored_hooked, stored_passed}
use Rattle.turning.proofs.turn.turn_record.Goals as goal

pub turn_links-requires : goal.turn_links-requires
turn_links-requires c =
    stored_can _ _ _ _ _ _ _ _ c.store.ensures c.store-2.ensures c.store-3.ensures _ _ c.requires

pub returns : goal.returns
returns c =
    let first = c.store.ensures in
    let second = c.store-2.ensures in
    let third = c.store-3.ensures in
    let p_is = c.true_p-p.ensures in
    let m_is = c.get-m.ensures in
    record {
      taken_over = λ f s. stored_hooked _ _ _ _ _ _ _ _ first second third _ p_is m_is f s _ _ c.turn_links.ensures.hooked;
      renewed = λ f s. stored_passed _ _ _ _ _ _ _ _ first second third _ p_is m_is f s _ c.turn_links.ensures.renewed;
    }
