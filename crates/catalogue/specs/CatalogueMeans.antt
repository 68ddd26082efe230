-- Document 02, Paper 5: what a taken catalogue call leaves, in the paper's own words.
use Rattle.std.specs.Prelude.{◌≡◌, List, ℕ, ◌+◌, ◌≤◌, ◌<◌, length, get_or, drop}
use Rattle.slicing.specs.Tree.{Tree}
use Rattle.slicing.specs.Shapes.{shapes}
use Rattle.lent.specs.Lent.{Lent}
use Rattle.shapes.specs.Listing.{RootList}
use Rattle.walking.specs.Walk.{walked}
use Rattle.walking.specs.WidthMeans.{WidthMeans}
use Rattle.catalogue.specs.declared.Catalogued.{Catalogued}

pub record CatalogueMeans (levels : List ℕ) (rib : ℕ) (heights : List ℕ) (old : Lent) (r : Catalogued) (new : Lent) (t : Tree) : Type 0 where
  -- "wants the least width for each; 0 stands for a height that no face meets": at a height's place stands the width for it.
  pub width_is : (i : ℕ) → i < length heights → WidthMeans rib (get_or heights i 0) t (get_or new.output i 0)
  -- "words after the widths stay"
  pub later : drop (length heights) new.output ≡ drop (length heights) old.output
  -- "the number of looks, which must be the walk's own and at most the items plus the heights"
  pub own_looks : r.looks ≡ (walked (shapes rib t) heights).looks
  pub few_looks : r.looks ≤ length (shapes rib t) + length heights
  -- "the arena" is "the list call's"
  pub root : RootList levels rib new.arena t
