-- Nets of lists, one by one.
use Rattle.std.proofs.Common.{◌≡◌, ℕ, ◌<◌, List, length, get_or, sym, ap, ◌∙◌, subst, All, arith}
use Rattle.std.proofs.lemmas.List.{get_or-map, length-map}
use Rattle.tsc_net.specs.PlanView.{net_numbers}
use Rattle.tsc_net.specs.declared.ids.NetId.{NetId}

-- each net of a list of known ones is known
pub number-known : (bound : ℕ) (list : List NetId) (numbers : List ℕ) (i : ℕ) (d : NetId) → net_numbers list ≡ numbers → i < length numbers → All (λ net. net < bound) numbers → (get_or list i d).number < bound
number-known bound list numbers i d e h known =
    let f : NetId → ℕ = λ net. net.number in
    let same : length list ≡ length numbers = sym (length-map list f) ∙ ap length e in
    let within : i < length list = omega arith in
    let P : ℕ → Type 0 = λ x. x < bound in
    let at : get_or numbers i 0 ≡ (get_or list i d).number = ap (λ xs. get_or xs i 0) (sym e) ∙ get_or-map f list i d 0 within in
    subst P at (known i 0 h)
