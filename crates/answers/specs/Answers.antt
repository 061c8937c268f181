-- What the answer of a command is to the text that was read. Each definition is a function of the two texts' bytes.
use Rattle.std.specs.Prelude.{◌≡◌, ◌≤◌, ℕ, false, List, length, None}
use Rattle.fault_secure.specs.declared.code.Code.{Code}
use Rattle.synth_ways.specs.declared.way.Way.{Way}
use Rattle.synth_ways.specs.declared.way.Way.TheVariants.{Parity, Duplex, Berger, MOutOfN}
use Rattle.fault_secure.specs.CodePlan.{CodePlan}
use Rattle.fault_secure.specs.Circuit.{Circuit}
use Rattle.fault_secure.specs.Logic.{Loose, States, StateTable}
use Rattle.fault_secure.specs.FaultSecure.{IsFaultSecure}
use Rattle.fault_secure.specs.CellSecure.{IsCellSecure}
use Rattle.tsc_net.specs.NetlistOf.{NetlistOf}
use Rattle.blif_read.specs.declared.kinds.Kind.TheVariants.{Netlist}
use Rattle.blif_write.specs.Layout.{netlist_text}
use Rattle.code_checkers.specs.SelfChecking.{IsSelfChecking}
use Rattle.machine_synth.specs.MachineBound.{machine_bound}
use Rattle.machine_synth.specs.MachineNetlist.{IsMachineNetlist}
use Rattle.parity_synth.specs.ParityNet.{parity_netlist, parity_plan}
use Rattle.duplex_synth.specs.DuplexNet.{duplex_netlist, duplex_plan}
use Rattle.pla_read.specs.Networks.{AnswersAs}
use Rattle.pla_read.specs.TableText.{is_free, is_one, TableOf}
use Rattle.structure_laws.specs.LooseSource.{with_version}
use Rattle.text_sections.specs.Denoted.{frees_in, inputs_in, machine_in, netlist_in, outputs_in, plan_in, table_in, values_in}
use Rattle.text_sections.specs.Refused.{text_refusal}
pub use Rattle.answers.specs.NetworkAnswers.{IsSecureFor, IsSynthesis}
use Rattle.answers.specs.TwinAnswers.{IsTwinAnswer}

-- a netlist with its plan is what the code asks for of the machine whose inputs and outputs have these names: within the bound on
-- covers, of sound structure and following it, and so secure for it, whichever one cell fails in any way, and whichever one listed fault
-- is present at any steps
pub record IsSecureMachine (code : Code) (M : StateTable) (inputs outputs : List (List ℕ)) (net : NetlistOf) (plan : CodePlan) : Type 0 where
  pub coded : plan.code ≡ code
  pub exact : IsMachineNetlist M inputs outputs net plan
  pub covers : length net.circuit.nodes ≤ machine_bound M code
  pub checking : IsSelfChecking (States M) net.circuit plan
  pub cells : IsCellSecure (States M) net.circuit plan
  pub secure : IsFaultSecure (States M) net.circuit plan

-- nothing refuses the answer as a netlist; it is exactly the text of the netlist and the plan that it denotes; and they are secure for
-- the machine that the text denotes
pub record IsMachineSynthesis (code : Code) (text answer : List ℕ) : Type 0 where
  pub readable : text_refusal Netlist answer ≡ None
  pub written : answer ≡ netlist_text (netlist_in answer) (plan_in answer)
  pub secure : IsSecureMachine code (machine_in text) (inputs_in text) (outputs_in text) (netlist_in answer) (plan_in answer)

-- two networks are those of a table: the first answers its values, and the second where these are free
pub record AnswerTable (table : TableOf) (values frees : Circuit) : Type 0 where
  pub values_as : AnswersAs (is_one table) values
  pub frees_as : AnswersAs (is_free table) frees

-- a netlist with its plan is what a way makes of a network with free bits. Under version 1 of its plan it is what the way makes of
-- the network of the values, and so answers these, also where they are free; its plan has version 2, and with it, it is of sound
-- structure and follows the source, and so is secure for it, whichever one cell fails in any way, and whichever one listed fault is
-- present at any steps
pub record IsSecureLoose (way : Way) (values frees net : NetlistOf) (plan : CodePlan) : Type 0 where
  pub chosen : IsSecureFor way values net (with_version 1 plan)
  pub version : plan.version ≡ 2
  pub checking : IsSelfChecking (Loose values.circuit frees.circuit) net.circuit plan
  pub cells : IsCellSecure (Loose values.circuit frees.circuit) net.circuit plan
  pub secure : IsFaultSecure (Loose values.circuit frees.circuit) net.circuit plan

-- nothing refuses the answer as a netlist; it is exactly the text of the netlist and the plan that it denotes; and they are secure for
-- the network with free bits whose table the text denotes
pub record IsLooseSynthesis (way : Way) (text answer : List ℕ) : Type 0 where
  pub readable : text_refusal Netlist answer ≡ None
  pub written : answer ≡ netlist_text (netlist_in answer) (plan_in answer)
  pub tabled : AnswerTable (table_in text) (values_in text).circuit (frees_in text).circuit
  pub secure : IsSecureLoose way (values_in text) (frees_in text) (netlist_in answer) (plan_in answer)

-- the text of the parity netlist of a network: its bytes, from the network alone
abbrev pub parity_text : NetlistOf → List ℕ
parity_text source = netlist_text (parity_netlist source) (parity_plan source.circuit)

-- and that of the duplex netlist
abbrev pub duplex_text : NetlistOf → List ℕ
duplex_text source = netlist_text (duplex_netlist source) (duplex_plan source.circuit)

-- the answer of a synthesis of a BLIF source: two copies take registers too
abbrev pub IsBlifSynthesis : Way → List ℕ → List ℕ → Type 0
IsBlifSynthesis Parity text answer = IsSynthesis Parity text answer
IsBlifSynthesis Duplex text answer = IsTwinAnswer false text answer
IsBlifSynthesis Berger text answer = IsSynthesis Berger text answer
IsBlifSynthesis MOutOfN text answer = IsSynthesis MOutOfN text answer
