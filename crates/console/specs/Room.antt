-- There is room for one item more.
use Rattle.std.specs.Prelude.{◌<◌, Vec, vec_len, vec_capacity}

abbrev pub HasRoom : {X Z : Type 0} → Vec X Z → Type 0
HasRoom v = vec_len v < vec_capacity v
