-- Along the traps that follow a trap.
use Rattle.std.proofs.Common.{◌≡◌, ◌<◌, ℕ, zero, suc, ◌-◌, List, [], ◌∷◌, ◌++◌, length, Some, None, refl, sym, ap, ◌∙◌, append_assoc, arith}
use Rattle.std.specs.List.{sum_by}
use Rattle.std.proofs.lemmas.List.{append-nil}
use Rattle.pl_pmac.specs.declared.pmac.Pmac.{Pmac}
use Rattle.pl_node.specs.declared.acts.Act.{Act}
use Rattle.pl_node.specs.declared.acts.Act.TheVariants.{Redirect}
use Rattle.pl_node.specs.declared.trap.Trap.{Trap}
use Rattle.pl_node.specs.SwitchViews.{SwitchView}
use Rattle.pl_steps.specs.Steps.{does}
use Rattle.pl_steps.specs.Taken.{IsTaken}
use Rattle.pl_migrate.specs.AddressTables.{AddressTableView, address_table_in, trap_in}
use Rattle.pl_switch_rule.specs.Delivering.{addresses, if_newer, last_on, last_trap, redirects, redirects_on, trap_for}

-- one trap further, or no further
redirects_by : (n : ℕ) (v : SwitchView) (trap : Trap) → 0 < n → redirects n v trap
    ≡ redirects_on (redirects (n - 1) v) trap.new (if_newer trap (trap_for v trap.new))
unfolding redirects
redirects_by zero v trap some = absurd (omega arith)
redirects_by (suc n) v trap some = ap (λ m. redirects_on (redirects m v) trap.new (if_newer trap (trap_for v trap.new))) (omega arith)

last_by : (n : ℕ) (v : SwitchView) (trap : Trap) → 0 < n → last_trap n v trap ≡ last_on (last_trap (n - 1) v) trap (if_newer trap (trap_for v trap.new))
unfolding last_trap
last_by zero v trap some = absurd (omega arith)
last_by (suc n) v trap some = ap (λ m. last_on (last_trap m v) trap (if_newer trap (trap_for v trap.new))) (omega arith)

pub redirects_further : (n : ℕ) (v : SwitchView) (trap next : Trap) → 0 < n → Some next ≡ if_newer trap (trap_for v trap.new) →
    redirects n v trap ≡ Redirect trap.new next.new ∷ redirects (n - 1) v next
redirects_further n v trap next some is = redirects_by n v trap some ∙ sym (ap (redirects_on (redirects (n - 1) v) trap.new) is)

pub redirects_end : (n : ℕ) (v : SwitchView) (trap : Trap) → None ≡ if_newer trap (trap_for v trap.new) → redirects n v trap ≡ []
unfolding redirects
redirects_end zero v trap is = refl
redirects_end (suc n) v trap is = sym (ap (redirects_on (redirects n v) trap.new) is)

pub last_further : (n : ℕ) (v : SwitchView) (trap next : Trap) → 0 < n → Some next ≡ if_newer trap (trap_for v trap.new) →
    last_trap n v trap ≡ last_trap (n - 1) v next
last_further n v trap next some is = last_by n v trap some ∙ sym (ap (last_on (last_trap (n - 1) v) trap) is)

pub last_end : (n : ℕ) (v : SwitchView) (trap : Trap) → None ≡ if_newer trap (trap_for v trap.new) → last_trap n v trap ≡ trap
unfolding last_trap
last_end zero v trap is = refl
last_end (suc n) v trap is = sym (ap (last_on (last_trap n v) trap) is)

pub redirects_none : (v : SwitchView) (trap : Trap) → redirects 0 v trap ≡ []
unfolding redirects
redirects_none v trap = refl

pub last_none : (v : SwitchView) (trap : Trap) → last_trap 0 v trap ≡ trap
unfolding last_trap
last_none v trap = refl

-- what is told so far, and then the rest
pub told_further : (out rest : List Act) (act : Act) (acts : List Act) → acts ≡ act ∷ rest → (out ++ act ∷ []) ++ rest ≡ out ++ acts
told_further out rest act acts is = append_assoc out (act ∷ []) rest ∙ ap (λ xs. out ++ xs) (sym is)

-- A walk along the traps of an address table: what is left of it, and what it began with.
pub record IsLed (address_table : AddressTableView) (left : ℕ) (trap : Trap) (out : List Act) (most : ℕ) (start : Trap) (before : List Act) : Type 0 where
  pub acts : (v : SwitchView) → out ++ redirects left (address_table_in address_table v) trap
      ≡ before ++ redirects most (address_table_in address_table v) start
  pub last : (v : SwitchView) → last_trap left (address_table_in address_table v) trap ≡ last_trap most (address_table_in address_table v) start

-- and its end
pub record HasLed (address_table : AddressTableView) (trap : Trap) (out : List Act) (most : ℕ) (start : Trap) (before : List Act) : Type 0 where
  pub acts : (v : SwitchView) → out ≡ before ++ redirects most (address_table_in address_table v) start
  pub last : (v : SwitchView) → trap ≡ last_trap most (address_table_in address_table v) start

pub led_further : (address_table : AddressTableView) (left : ℕ) (trap next : Trap) (out after : List Act) (most : ℕ) (start : Trap) (before : List Act) →
    0 < left →
    Some next ≡ if_newer trap (trap_in address_table trap.new) → after ≡ out ++ Redirect trap.new next.new ∷ [] →
    IsLed address_table left trap out most start before → IsLed address_table (left - 1) next after most start before
led_further address_table left trap next out after most start before some is told led = record {
  acts = λ v. ap (λ xs. xs ++ redirects (left - 1) (address_table_in address_table v) next) told
      ∙ told_further out (redirects (left - 1) (address_table_in address_table v) next) (Redirect trap.new next.new)
      (redirects left (address_table_in address_table v) trap)
      (redirects_further left (address_table_in address_table v) trap next some is)
      ∙ led.acts v;
  last = λ v. sym (last_further left (address_table_in address_table v) trap next some is) ∙ led.last v;
}

pub led_to_the_end : (address_table : AddressTableView) (left : ℕ) (trap : Trap) (out : List Act) (most : ℕ) (start : Trap) (before : List Act) →
    None ≡ if_newer trap (trap_in address_table trap.new) → IsLed address_table left trap out most start before →
    HasLed address_table trap out most start before
led_to_the_end address_table left trap out most start before is led = record {
  acts = λ v. sym (append-nil out) ∙ sym (ap (λ xs. out ++ xs) (redirects_end left (address_table_in address_table v) trap is)) ∙ led.acts v;
  last = λ v. sym (last_end left (address_table_in address_table v) trap is) ∙ led.last v;
}

pub led_so_far : (address_table : AddressTableView) (left : ℕ) (trap : Trap) (out : List Act) (most : ℕ) (start : Trap) (before : List Act) →
    left ≡ 0 → IsLed address_table left trap out most start before → HasLed address_table trap out most start before
led_so_far address_table left trap out most start before none led = record {
  acts = λ v. sym (append-nil out) ∙ sym (ap (λ xs. out ++ xs) (ap (λ n. redirects n (address_table_in address_table v) trap) none
      ∙ redirects_none (address_table_in address_table v) trap)) ∙ led.acts v;
  last = λ v. sym (ap (λ n. last_trap n (address_table_in address_table v) trap) none ∙ last_none (address_table_in address_table v) trap) ∙ led.last v;
}

-- what the walk has told, with the redirection that it began with
pub led_taken : (address_table : AddressTableView) (old : Pmac) (trap : Trap) (out : List Act) (most : ℕ) (start : Trap) (before first : List Act) →
    before ≡ first ++ Redirect old start.new ∷ [] → most ≡ sum_by length address_table.grants → HasLed address_table trap out most start before →
    (v : SwitchView) →
    IsTaken (does (address_table_in address_table v) (Redirect old start.new ∷ redirects (addresses (address_table_in address_table v))
    (address_table_in address_table v) start)) (address_table_in address_table v) first out
led_taken address_table old trap out most start before first began all led v = let w : SwitchView = address_table_in address_table v in record {
  view = refl;
  acts = led.acts v ∙ ap (λ xs. xs ++ redirects most w start) began
      ∙ append_assoc first (Redirect old start.new ∷ []) (redirects most w start)
      ∙ ap (λ n. first ++ Redirect old start.new ∷ redirects n w start) all;
}

pub led_last : (address_table : AddressTableView) (trap : Trap) (out : List Act) (most : ℕ) (start : Trap) (before : List Act) →
    most ≡ sum_by length address_table.grants →
    HasLed address_table trap out most start before → (v : SwitchView) → trap
    ≡ last_trap (addresses (address_table_in address_table v)) (address_table_in address_table v) start
led_last address_table trap out most start before all led v = led.last v ∙ ap (λ n. last_trap n (address_table_in address_table v) start) all
