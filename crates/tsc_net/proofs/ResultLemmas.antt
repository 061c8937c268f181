-- What is known of a result, carried on.
use Rattle.std.proofs.Common.{Result, Ok, Err}
use Rattle.std.specs.Result.{IfOk, IfErr, OnOk}

module _ {T E : Type 0} where
  -- what holds whatever the result holds where it is Ok
  pub on_ok : (r : Result T E) (P : Type 0) → P → OnOk r P
  on_ok (Ok x) P p = p
  on_ok (Err e) P p = tt

  pub err_so : {P Q : E → Type 0} → ((e : E) → P e → Q e) → (r : Result T E) → IfErr r P → IfErr r Q
  err_so so (Ok x) h = h
  err_so so (Err e) h = so e h

  -- what follows from two statements that hold where the result is Ok holds there too
  pub ok_both : {A B C : Type 0} → (A → B → C) → (r : Result T E) → OnOk r A → OnOk r B → OnOk r C
  ok_both so (Ok x) a b = so a b
  ok_both so (Err e) a b = a

  -- what follows from a statement that holds of an Ok value holds of it too
  pub ok_so : {P Q : T → Type 0} → ((x : T) → P x → Q x) → (r : Result T E) → IfOk r P → IfOk r Q
  ok_so so (Ok x) h = so x h
  ok_so so (Err e) h = h

  -- what follows from a statement that holds where the result is Ok holds there too
  pub on_ok_so : {A B : Type 0} → (A → B) → (r : Result T E) → OnOk r A → OnOk r B
  on_ok_so so (Ok x) a = so a
  on_ok_so so (Err e) a = a
