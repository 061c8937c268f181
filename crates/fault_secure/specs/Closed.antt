-- Closed circuits: they read and show only nets of their own.
use Rattle.std.specs.Prelude.{◌≡◌, ℕ, ◌<◌, length, All}
use Rattle.fault_secure.specs.Circuit.{Circuit, nets, node, pin_net}

-- each net that is read or shown is a net of the circuit, there is an output, and a cover has one pin per net that its node reads
pub record IsClosed (C : Circuit) : Type 0 where
  pub pins : (j pin : ℕ) → j < length C.nodes → pin < length (node C j).reads → pin_net C j pin < nets C
  pub latches : All (λ l. l.reads < nets C) C.latches
  pub outputs : All (λ net. net < nets C) C.outputs
  pub some_output : 0 < length C.outputs
  pub widths : All (λ n. n.cover.width ≡ length n.reads) C.nodes
