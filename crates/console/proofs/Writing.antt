-- A writer that is left alone holds what it held.
use Rattle.std.proofs.Common.{ℕ, List, [], Some, None, Option, sym, append-nil}
use Rattle.std.specs.Io.KnownBytes.{Appends}

pub appends_nothing : (held : Option (List ℕ)) → Appends held held []
appends_nothing None = tt
appends_nothing (Some bytes) = sym (append-nil bytes)
