-- What is seen of texts that stand end to end.
use Rattle.std.specs.Prelude.{ℕ, List, map, length, All}
use Rattle.tsc_net.specs.inner.Spans.{piece, IsSpan}
use Rattle.tsc_net.specs.declared.texts.Texts.TheInside.{Inside}

abbrev pub texts_in : Inside → List (List ℕ)
texts_in t = map (piece t.bytes.items) t.spans.items

-- each text stands within the bytes
abbrev pub AreInside : Inside → Type 0
AreInside t = All (IsSpan (length t.bytes.items)) t.spans.items
