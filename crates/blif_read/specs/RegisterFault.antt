-- Why a plan that may list no states is refused: as a plan, and then for what is watched and for the clocks of registers.
use Rattle.std.specs.Prelude.{ℕ, ◌+◌, Bool, true, not, ◌&&◌, ◌||◌, ◌==◌, if◌then◌else◌, List, length, nat_le, nat_lt, Option, None, Some}
use Rattle.std.specs.List.{list_all}
use Rattle.tsc_net.specs.NetlistOf.{NetlistOf}
use Rattle.tsc_net.specs.NetFault.{first_repeat}
use Rattle.tsc_text.specs.TextLine.{TextLine}
use Rattle.blif_read.specs.LineKind.{pins_of}
use Rattle.blif_read.specs.Clocks.{clock_misfit}
use Rattle.blif_read.specs.PlanText.{code_line, code_in, version_of, net_named, watch_lines, first_watch, state_words, seen_net, is_parity}
use Rattle.blif_read.specs.PlanFault.{is_empty, is_none, plan_refusal}
use Rattle.blif_read.specs.Refusal.{first_refusal}
use Rattle.blif_read.specs.declared.error.BlifError.{BlifError}
use Rattle.blif_read.specs.declared.error.BlifError.TheVariants.{LatchClock, PlanShape}

-- the plan lists states
abbrev pub lists_states : List TextLine → Bool
lists_states lines = not (is_empty (state_words lines))

-- the name is that of a register's net
abbrev pub is_register : NetlistOf → List ℕ → Bool
is_register net name = nat_le net.circuit.inputs (net_named net name) && nat_lt (net_named net name) (net.circuit.inputs + length net.circuit.latches)

-- the line names registers, each once, and then a check, which is any net
abbrev pub watches_registers : NetlistOf → TextLine → Bool
watches_registers net line = list_all (is_register net) (pins_of line) && is_none (first_repeat (pins_of line))

-- nothing is watched, or by this line registers are
abbrev pub is_watch : NetlistOf → Option TextLine → Bool
is_watch net None = true
is_watch net (Some line) = watches_registers net line

-- the version is 1 and the code is parity
abbrev pub is_plain_parity : TextLine → Bool
is_plain_parity head = version_of head == 1 && is_parity (code_in head)

-- what is watched fits the registers: nothing where there are none or their states are listed. Where none are listed, the version is 1, the
-- code is parity, and there is at most one watch line, of registers
abbrev pub fits_registers : TextLine → List TextLine → NetlistOf → Bool
fits_registers head lines net =
    if length net.circuit.latches == 0 || lists_states lines then watch_lines lines == 0
    else is_plain_parity head && (nat_le (watch_lines lines) 1 && is_watch net (first_watch lines))

-- the number of the first line whose clock doesn't fit, where no states are listed
abbrev pub stateless_misfit : List TextLine → Option ℕ
stateless_misfit lines = if lists_states lines then None else clock_misfit lines

-- the refusal of a clock, of the line with this number
abbrev pub clock_refusal : Option ℕ → Option BlifError
clock_refusal None = None
clock_refusal (Some line) = Some (LatchClock line)

-- the refusal of what is watched, at the line that names the code, and then of a clock
abbrev pub register_refusal : TextLine → List TextLine → NetlistOf → Option BlifError
register_refusal head lines net = if fits_registers head lines net then clock_refusal (stateless_misfit lines) else Some (PlanShape head.number)

-- the same of lines with this code line, if they have one
abbrev pub register_refusal_at : Option TextLine → List TextLine → NetlistOf → Option BlifError
register_refusal_at None lines net = None
register_refusal_at (Some head) lines net = register_refusal head lines net

-- the refusal of a plan that may list no states, of lines that have no fault, whose netlist is there: as a plan of the netlist as it sees it, and
-- then of its registers
abbrev pub any_plan_refusal : List TextLine → NetlistOf → Option BlifError
any_plan_refusal lines net =
    first_refusal (plan_refusal lines (seen_net (lists_states lines) net)) (register_refusal_at (code_line lines) lines net)
