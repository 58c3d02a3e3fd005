-- The balance of a world: of each number, the frames that ended, those in queues, and those that are owed, are as many as began.
use Rattle.std.proofs.Common.{◌≡◌, ℕ, ◌+◌, ◌*◌, ◌<◌, List, [], ◌∷◌, ◌++◌, length, get_or, set, refl, ◌∙◌, ap, subst, arith, inl, inr}
use Rattle.std.specs.List.{AllByRecursion}
use Rattle.std.proofs.Math.ListN.{length-set}
use Rattle.std.proofs.lemmas.Bool.{cases_lt}
use Rattle.std.proofs.lemmas.List.{set_past, get_or_past}
use Rattle.pl_lemmas.proofs.Exports.{all_append}
use Rattle.pl_wiring.specs.Labels.{switch_count}
use Rattle.pl_wiring.specs.Plan.{Plan}
use Rattle.pl_journal.specs.declared.cause.Cause.{Cause}
use Rattle.pl_journal.specs.declared.entry.Entry.{Entry}
use Rattle.pl_journal.specs.Flights.{begun, ends}
use Rattle.pl_world.specs.declared.item.Item.{Item}
use Rattle.pl_world.specs.declared.item.Item.TheVariants.{Control, Data}
use Rattle.pl_world.specs.Changes.{ends_of}
use Rattle.pl_world.specs.Flying.{IsDataItem, IsItem, born, times_in, times_in_all}
use Rattle.pl_world.specs.Worlds.{WorldView}
use Rattle.pl_world.proofs.Counts.{all_at, all_set, begun-append, born_more, ends-append, ends_of-begun, ends_of-ends, one, times_in-append, times_in-cons, times_in_all-set, within_queue}

pub record Balanced (plan : Plan) (from_hosts out : List (List Item)) (journal : List Entry) (many : ℕ) (owed : ℕ → ℕ) : Type 0 where
  pub hosts : length from_hosts ≡ length plan.hosts
  pub ports : length out ≡ switch_count plan.k * plan.k
  pub host_items : AllByRecursion (AllByRecursion IsDataItem) from_hosts
  pub port_items : AllByRecursion (AllByRecursion IsItem) out
  pub begins : begun journal ≡ many
  pub flights : (id : ℕ) → ends journal id + (times_in_all id from_hosts + times_in_all id out) + owed id ≡ born id many

-- a world owes so many ends
abbrev pub Owes : WorldView → (ℕ → ℕ) → Type 0
Owes w owed = Balanced w.plan w.from_hosts w.out w.journal w.begun owed

module _ (plan : Plan) (from_hosts out : List (List Item)) (journal : List Entry) (many : ℕ) (f g : ℕ → ℕ) where
  -- entries that begin no frame
  pub noted_balance : (entries : List Entry) → begun entries ≡ 0 → ((id : ℕ) → f id ≡ ends entries id + g id) →
      Balanced plan from_hosts out journal many f → Balanced plan from_hosts out (journal ++ entries) many g
  noted_balance entries none owes b = record {
    hosts = b.hosts;
    ports = b.ports;
    host_items = b.host_items;
    port_items = b.port_items;
    begins = let e = b.begins in omega (arith, begun-append journal entries);
    flights = λ id. omega (arith, b.flights id, owes id, ends-append journal entries id);
  }

  -- an entry that begins a frame
  pub begun_balance : (entry : Entry) → begun (entry ∷ []) ≡ 1 → ((id : ℕ) → ends (entry ∷ []) id ≡ 0) → ((id : ℕ) → g id ≡ one (many + 1) id + f id) →
      Balanced plan from_hosts out journal many f → Balanced plan from_hosts out (journal ++ entry ∷ []) (many + 1) g
  begun_balance entry begins ends owes b = record {
    hosts = b.hosts;
    ports = b.ports;
    host_items = b.host_items;
    port_items = b.port_items;
    begins = let e = b.begins in omega (arith, begun-append journal (entry ∷ []), begins);
    flights = λ id. omega (arith, b.flights id, owes id, ends-append journal (entry ∷ []) id, ends id, born_more id many);
  }

  -- another queue out of a port, and another queue of a host
  pub out_balance : (at : ℕ) (queue : List Item) → at < length out → AllByRecursion IsItem queue →
      ((id : ℕ) → times_in id queue + g id ≡ times_in id (get_or out at []) + f id) →
      Balanced plan from_hosts out journal many f → Balanced plan from_hosts (set out at queue) journal many g
  out_balance at queue within items owes b = record {
    hosts = b.hosts;
    ports = length-set out at queue ∙ b.ports;
    host_items = b.host_items;
    port_items = all_set (AllByRecursion IsItem) out at queue items b.port_items;
    begins = b.begins;
    flights = λ id. omega (arith, b.flights id, owes id, times_in_all-set id out at queue within);
  }

  pub host_balance : (at : ℕ) (queue : List Item) → at < length from_hosts → AllByRecursion IsDataItem queue →
      ((id : ℕ) → times_in id queue + g id ≡ times_in id (get_or from_hosts at []) + f id) →
      Balanced plan from_hosts out journal many f → Balanced plan (set from_hosts at queue) out journal many g
  host_balance at queue within items owes b = record {
    hosts = length-set from_hosts at queue ∙ b.hosts;
    ports = b.ports;
    host_items = all_set (AllByRecursion IsDataItem) from_hosts at queue items b.host_items;
    port_items = b.port_items;
    begins = b.begins;
    flights = λ id. omega (arith, b.flights id, owes id, times_in_all-set id from_hosts at queue within);
  }

  pub same_balance : ((id : ℕ) → f id ≡ g id) → Balanced plan from_hosts out journal many f → Balanced plan from_hosts out journal many g
  same_balance same b = record {
    hosts = b.hosts;
    ports = b.ports;
    host_items = b.host_items;
    port_items = b.port_items;
    begins = b.begins;
    flights = λ id. omega (arith, b.flights id, same id);
  }

  -- an item that is owed is put into a queue
  pub put_out_balance : (at : ℕ) (item : Item) → at < length out → IsItem item → ((id : ℕ) → f id ≡ times_in id (item ∷ []) + g id) →
      Balanced plan from_hosts out journal many f → Balanced plan from_hosts (set out at (get_or out at [] ++ item ∷ [])) journal many g
  put_out_balance at item within is owes b = out_balance at (get_or out at [] ++ item ∷ []) within
      (all_append IsItem (get_or out at []) (item ∷ []) (all_at (AllByRecursion IsItem) out at [] tt b.port_items) (is, tt))
      (λ id. omega (arith, times_in-append id (get_or out at []) (item ∷ []), owes id)) b

  pub put_host_balance : (at : ℕ) (item : Item) → at < length from_hosts → IsDataItem item → ((id : ℕ) → f id ≡ times_in id (item ∷ []) + g id) →
      Balanced plan from_hosts out journal many f → Balanced plan (set from_hosts at (get_or from_hosts at [] ++ item ∷ [])) out journal many g
  put_host_balance at item within is owes b = host_balance at (get_or from_hosts at [] ++ item ∷ []) within
      (all_append IsDataItem (get_or from_hosts at []) (item ∷ []) (all_at (AllByRecursion IsDataItem) from_hosts at [] tt b.host_items) (is, tt))
      (λ id. omega (arith, times_in-append id (get_or from_hosts at []) (item ∷ []), owes id)) b

  -- the head of a queue is taken, and owed
  pub took_out_balance : (at : ℕ) (item : Item) (items : List Item) → get_or out at [] ≡ item ∷ items → ((id : ℕ) → g id ≡ times_in id (item ∷ []) + f id) →
      Balanced plan from_hosts out journal many f → Balanced plan from_hosts (set out at items) journal many g
  took_out_balance at item items is owes b = out_balance at items (within_queue out at item items is)
      (let all : AllByRecursion IsItem (item ∷ items) = subst (AllByRecursion IsItem) is (all_at (AllByRecursion IsItem) out at [] tt b.port_items) in all.1)
      (λ id. omega (arith, ap (times_in id) is, times_in-cons id item items, owes id)) b

  pub took_host_balance : (at : ℕ) (item : Item) (items : List Item) → get_or from_hosts at [] ≡ item ∷ items → ((id : ℕ) → g id ≡ times_in id (item ∷ []) + f id) →
      Balanced plan from_hosts out journal many f → Balanced plan (set from_hosts at items) out journal many g
  took_host_balance at item items is owes b = host_balance at items (within_queue from_hosts at item items is)
      (let all : AllByRecursion IsDataItem (item ∷ items) = subst (AllByRecursion IsDataItem) is (all_at (AllByRecursion IsDataItem) from_hosts at [] tt b.host_items) in all.1)
      (λ id. omega (arith, ap (times_in id) is, times_in-cons id item items, owes id)) b

head_is : (P : Item → Type 0) (queues : List (List Item)) (at : ℕ) (item : Item) (items : List Item) → get_or queues at [] ≡ item ∷ items →
    AllByRecursion (AllByRecursion P) queues → P item
head_is P queues at item items is all =
    let here : AllByRecursion P (item ∷ items) = subst (AllByRecursion P) is (all_at (AllByRecursion P) queues at [] tt all) in here.0

-- a head is an item
pub head_is_item : (queues : List (List Item)) (at : ℕ) (item : Item) (items : List Item) → get_or queues at [] ≡ item ∷ items →
    AllByRecursion (AllByRecursion IsItem) queues → IsItem item
head_is_item queues at item items is all = head_is IsItem queues at item items is all

data_is_item : (item : Item) → IsDataItem item → IsItem item
data_is_item (Control frame) is = absurd is
data_is_item (Data id frame) is = is

-- and so is that of a host's queue
pub sent_is_item : (queues : List (List Item)) (at : ℕ) (item : Item) (items : List Item) → get_or queues at [] ≡ item ∷ items →
    AllByRecursion (AllByRecursion IsDataItem) queues → IsItem item
sent_is_item queues at item items is all = data_is_item item (head_is IsDataItem queues at item items is all)

module _ (plan : Plan) (from_hosts out : List (List Item)) (journal : List Entry) (many : ℕ) (f : ℕ → ℕ) (cause : Cause) (at : ℕ) where
  -- the frames in a queue end
  pub emptied_out_balance : Balanced plan from_hosts out journal many f →
      Balanced plan from_hosts (set out at []) (journal ++ ends_of cause (get_or out at [])) many f
  emptied_out_balance b = elim (cases_lt at (length out)) [
    | inl within ↦
        let left : ℕ → ℕ = λ id. times_in id (get_or out at []) + f id in
        noted_balance plan from_hosts (set out at []) journal many left f (ends_of cause (get_or out at [])) (ends_of-begun cause (get_or out at []))
        (λ id. omega (arith, ends_of-ends cause (get_or out at []) id))
        (out_balance plan from_hosts out journal many f left at [] within tt (λ id. omega arith) b)
    | inr past ↦
        rw (set_past out at [] past, get_or_past out at [] past)
        (noted_balance plan from_hosts out journal many f f [] refl (λ id. omega arith) b)
  ]

  pub emptied_host_balance : Balanced plan from_hosts out journal many f →
      Balanced plan (set from_hosts at []) out (journal ++ ends_of cause (get_or from_hosts at [])) many f
  emptied_host_balance b = elim (cases_lt at (length from_hosts)) [
    | inl within ↦
        let left : ℕ → ℕ = λ id. times_in id (get_or from_hosts at []) + f id in
        noted_balance plan (set from_hosts at []) out journal many left f (ends_of cause (get_or from_hosts at [])) (ends_of-begun cause (get_or from_hosts at []))
        (λ id. omega (arith, ends_of-ends cause (get_or from_hosts at []) id))
        (host_balance plan from_hosts out journal many f left at [] within tt (λ id. omega arith) b)
    | inr past ↦
        rw (set_past from_hosts at [] past, get_or_past from_hosts at [] past)
        (noted_balance plan from_hosts out journal many f f [] refl (λ id. omega arith) b)
  ]
