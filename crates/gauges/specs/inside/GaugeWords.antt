-- The words of a gauge's sizes. No public contract cites it.
use Rattle.std.specs.Prelude.{◌≡◌, List, ℕ}
use Rattle.slicing.specs.Item.{Item}
use Rattle.slicing.specs.Good.{GoodGauge}
use Rattle.writing.specs.Words.{list_words}

pub record GaugeWords (words : List ℕ) (sizes : List Item) : Type 0 where
  pub good : GoodGauge sizes
  pub same : words ≡ list_words sizes
