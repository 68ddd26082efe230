-- Demand 3 over the definitions: what the fit picks for an outline has a legal layout inside it, with exactly the picked height and width, whose area no other legal layout inside it goes below; nothing is picked exactly where no legal layout is inside.
-- The placed layout of a listed item has exactly its size, and every legal layout has a listed item no taller and no wider, so the least item inside the outline stands for all layouts inside.
use mathlib.Core.Path.{◌≡◌, refl}
use Prim.Native.Nat.{ℕ, ◌*◌, ◌≤◌}
use native.Mathlib.Nat.{le_trans, mul-le-mul}
use native.Mathlib.Omega.{arith}
use Rattle.slicing.specs.Item.{Item, height, width}
use Rattle.slicing.specs.Tree.{Tree}
use Rattle.slicing.specs.Good.{Good}
use Rattle.slicing.specs.Shapes.{shapes}
use Rattle.slicing.specs.Layout.{Layout, rightmost, topmost, Legal, Outline, Inside}
use Rattle.slicing.specs.Fit.{Pick, nothing, picked, smallest, place}
use Rattle.slicing.specs.FitMeans.{FaceFits, NothingFits, FitMeans}
use Rattle.slicing.proofs.LayoutMet.{HasRoom, layout_met, zero_corner}
use Rattle.slicing.proofs.Placing.{placed}
use Rattle.slicing.proofs.Picking.{Within, Best, PickMeans, pick_means}

-- A layout's room, counted from zero.
room : (gap : ℕ) (t : Tree) (l : Layout t) → Good t → Legal gap t l → HasRoom gap t l 0 0
room gap t l good legal = let corner = zero_corner t l in layout_met gap t l 0 0 good legal corner.0 corner.1

room_within : (gap : ℕ) (t : Tree) (l : Layout t) (o : Outline) → Inside o t l → (r : HasRoom gap t l 0 0) → Within o r.item
room_within gap t l o inside r = record { low = omega arith; narrow = omega arith }

room_area : (gap : ℕ) (t : Tree) (l : Layout t) (o : Outline) (z : Item) → Best o (shapes gap t) z → Inside o t l → HasRoom gap t l 0 0 → height z * width z ≤ topmost t l * rightmost t l
room_area gap t l o z best inside r =
    le_trans (best.best r.item r.item_in (room_within gap t l o inside r)).area_least (mul-le-mul (omega arith) (omega arith))

face_fits : (gap : ℕ) (t : Tree) → Good t → (o : Outline) (z : Item) → Best o (shapes gap t) z → FaceFits gap t o z
face_fits gap t good o z best =
    let sits = placed gap t z 0 0 good best.in_list in
    record {
      legal = sits.legal;
      inside = record { low = omega arith; narrow = omega arith };
      own_height = omega arith;
      own_width = omega arith;
      least = λ l legal inside. room_area gap t l o z best inside (room gap t l good legal);
    }

fit_means : (gap : ℕ) (t : Tree) → Good t → (o : Outline) (r : Pick) → PickMeans o (shapes gap t) r → FitMeans gap t o r
fit_means gap t good o nothing h =
    record {
      none = λ l legal inside. let r = room gap t l good legal in h.none r.item r.item_in (room_within gap t l o inside r);
    }
fit_means gap t good o (picked z) h = face_fits gap t good o z h

pub demand_3 : (gap : ℕ) (t : Tree) → Good t → (o : Outline) → FitMeans gap t o (smallest o (shapes gap t))
demand_3 gap t good o = fit_means gap t good o (smallest o (shapes gap t)) (pick_means o (shapes gap t))

-- Nothing is picked only where no legal layout is inside the opening.
pub nothing_exactly : (gap : ℕ) (t : Tree) → Good t → (o : Outline) (l : Layout t) → Legal gap t l → Inside o t l → smallest o (shapes gap t) ≡ nothing → ⊥
nothing_exactly gap t good o l legal inside e =
    let r : NothingFits gap t o = rw e at (demand_3 gap t good o) in r.none l legal inside

nothing_step : (gap : ℕ) (t : Tree) (o : Outline) (r : Pick) → FitMeans gap t o r → NothingFits gap t o → r ≡ nothing
nothing_step gap t o nothing h none = refl
nothing_step gap t o (picked z) h none = absurd (none.none (place gap t z 0 0) h.legal h.inside)

-- Nothing is picked wherever no legal layout is inside the opening.
pub nothing_where_none : (gap : ℕ) (t : Tree) → Good t → (o : Outline) → NothingFits gap t o → smallest o (shapes gap t) ≡ nothing
nothing_where_none gap t good o none = nothing_step gap t o (smallest o (shapes gap t)) (demand_3 gap t good o) none
