-- The number of a kind, as the code casts it, is that of its byte.
-- The kinds are numbered from 1.
use mathlib.Core.Path.{◌≡◌, refl}
use Prim.Native.Nat.{◌+◌}
use denote.Enum.Declared.{tag_of}
use Rattle.entries.specs.contracts.kinds.Kind.{the_type}
use Rattle.entries.specs.declared.kinds.Kind.{Kind}
use Rattle.entries.specs.declared.kinds.Kind.TheVariants.{Gauge, Beside, Stacked}
use Rattle.entries.specs.inside.Kinds.{byte_of}

pub kind_tag : (kind : Kind) → tag_of the_type kind + 1 ≡ byte_of kind
kind_tag Gauge = refl
kind_tag Beside = refl
kind_tag Stacked = refl
