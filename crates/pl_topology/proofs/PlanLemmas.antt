-- What a topology file means is a wiring.
use Rattle.std.proofs.Common.{◌≡◌, ◌≢◌, ℕ, ℤ, pos, negsuc, ◌%◌, ◌<◌, ◌≤◌, ◌^◌, Bool, true, false, not, ◌&&◌, ◌||◌, ltb, leb, eqb, cond, List, [], ◌∷◌, ◌++◌, get_or, Some, None, option_and_then, Result, Ok, IsTrue, All, AllPairs, subst, sym, ap, ◌∙◌, arith}
use Rattle.std.specs.Prelude.{codes}
use Rattle.std.specs.Bool.{⊤}
use Rattle.std.specs.List.{flat_map, list_any}
use Rattle.std.specs.Str.{bytes_eq}
use Rattle.std.proofs.lemmas.Bool.{and_parts, eqb-true, false≢true, ltb-true, leb-true, or_parts, not-false}
use Rattle.std.proofs.lemmas.Bool.Decides.{Decides-eqb}
use Rattle.std.proofs.lemmas.Slice.Eq.{bytes_eq-Decides}
use Rattle.toml.specs.Data.{Members, as_integer, get_member}
use Rattle.std.proofs.lemmas.List.{length-map}
use Rattle.pl_frame.specs.declared.address.SwitchId.{SwitchId}
use Rattle.pl_frame.specs.declared.address.Mac.{Mac}
use Rattle.pl_frame.specs.declared.address.Ip4.{Ip4}
use Rattle.pl_topology.specs.declared.entries.PortUse.{PortUse}
use Rattle.pl_topology.specs.declared.error.TopologyError.{TopologyError}
use Rattle.pl_topology.specs.declared.error.TopologyError.TheVariants as error
use Rattle.pl_topology.specs.declared.key.Key.TheVariants as key
use Rattle.pl_topology.specs.declared.key.Key.{Key}
use Rattle.pl_wiring.specs.declared.label.SwitchNo.{SwitchNo}
use Rattle.pl_topology.specs.declared.entries.SwitchEntry.{SwitchEntry}
use Rattle.pl_topology.specs.declared.entries.LinkEntry.{LinkEntry}
use Rattle.pl_topology.specs.declared.entries.HostEntry.{HostEntry}
use Rattle.pl_topology.specs.Checks.{addresses_are_new, addresses_differ, are_adjacent, has_id, has_ip, has_mac, host_uses, id_is_new, ids_differ, is_called, joins_the_tree, kept_ids, kept_uses, link_uses, name_is_new, names_differ, port_is_free, ports_differ}
use Rattle.pl_topology.specs.Document.{arity_if, arity_of, integer_at, tables_at, text_at, value_at}
use Rattle.pl_topology.specs.Entries.{HasEdge, NamesSwitches, capture_of, edge_if, host_entry, id_if, is_again, is_of, link_entry, name_if, switch_at, switch_entry}
use Rattle.pl_wiring.specs.SwitchNames.{is_label, switch_named}
use Rattle.pl_topology.specs.FileEntries.{Entries, entries_of, host_entries, link_entries, switch_entries}
use Rattle.pl_wiring.specs.Labels.{IsArity, edge_count, label_of, number_of, switch_count}
use Rattle.pl_topology.specs.Meaning.{host_of, plan_of_entries}
use Rattle.pl_wiring.specs.Plan.{IsHostIp, IsHostMac, IsPlan}
use Rattle.pl_topology.specs.Refusal.{all_beside, each, each_beside, or_refused, refused_if}
use Rattle.pl_wiring.specs.Texts.{ip_of_text, is_name, label_of_text, mac_of_text}
use Rattle.pl_wiring.proofs.Exports.{ip_of_text-one, is_label-Decides, mac_of_text-one, number_of-below}
use Rattle.pl_topology.proofs.PlacedHosts.{AgreeHosts, few_hosts, hosts_at_edges, hosts_at_free_ports, hosts_ips_apart, hosts_macs_apart, hosts_names_apart, hosts_places_apart, uses_of_links}
use Rattle.pl_topology.proofs.PlacedIds.{AgreeIds, ids_of-apart, ids_of-in_range, ids_of-length}
use Rattle.pl_topology.proofs.PlacedLinks.{Agree, links_of-IsFatTree, links_of-order}
use Rattle.pl_topology.proofs.PortsApart.{groups_apart, groups_free}
use Rattle.pl_topology.proofs.Readings.{All-weaker, AllPairs-none, all_beside-All, each-All, none_at, none_of_both}
use Rattle.pl_topology.proofs.RefusalLemmas.{bind_ok, or_refused_ok, refused_if_ok}
use Rattle.std.proofs.lemmas.List.Elements.{All-cons, All-map, All-nil}
use Rattle.std.proofs.lemmas.Option.{cond_some}
use Rattle.std.proofs.lemmas.List.Kept.{AllPairs-cons}
use Rattle.pl_lemmas.proofs.Exports.{and_then_some}

-- a switch that is named is one of the tree
switch_named-below : (k : ℕ) (text : List ℕ) (switch : SwitchNo) → switch_named k text ≡ Some switch → switch.0 < switch_count k
unfolding switch_named
switch_named-below k text switch named =
    let (label, read, found) = and_then_some (λ label. cond (is_label k label) (Some (record { 0 = number_of k label })) None) (label_of_text text) switch named in
    let (is, same) = cond_some (is_label k label) (record { 0 = number_of k label }) switch found in
    let low = number_of-below k label ((is_label-Decides k label).0 is) in
    (rw (ap (λ (s : SwitchNo). s.0) same) at low)

switch_at-below : (k : ℕ) (where_ : Key) (found : Members) (switch : SwitchNo) → switch_at k where_ found ≡ Some switch → switch.0 < switch_count k
switch_at-below k where_ found switch is =
    let (text, read, named) = and_then_some (switch_named k) (text_at where_ found) switch is in
    switch_named-below k text switch named

id_if-range : (z : ℤ) (id : SwitchId) → id_if z ≡ Some id → (1 ≤ id.0) × (id.0 < 2 ^ 48)
id_if-range (pos n) id is =
    let made : SwitchId = record { 0 = n } in
    let (range, same) = cond_some (leb 1 n && ltb n 281474976710656) made id is in
    let (low, high) = and_parts (leb 1 n) (ltb n 281474976710656) range in
    let number : n ≡ id.0 = ap (λ (s : SwitchId). s.0) same in
    let above = leb-true 1 n low in
    let below = ltb-true n 281474976710656 high in
    (omega arith, omega arith)
id_if-range (negsuc n) id is = cc

-- what a switch table says is of the tree
abbrev pub IsSwitchEntry : SwitchEntry → Type 0
IsSwitchEntry entry = (1 ≤ entry.id.0) × (entry.id.0 < 2 ^ 48)

switch_entry-is : (k : ℕ) (before : List SwitchEntry) (found : Members) (entry : SwitchEntry) → switch_entry k before found ≡ Ok entry → IsSwitchEntry entry
unfolding switch_entry
switch_entry-is k before found entry given =
    let (switch, named, rest) = bind_ok (or_refused (switch_at k key.Label found) (error.BadValue key.Label)) _ entry given in
    let (u, fresh, rest2) = bind_ok (refused_if (list_any (is_of switch) before) (error.BadValue key.Label)) _ entry rest in
    let (id, is, made) = bind_ok (or_refused (option_and_then id_if (integer_at key.Id found)) (error.BadValue key.Id)) _ entry rest2 in
    let (z, read, number) = and_then_some id_if (integer_at key.Id found) id (or_refused_ok _ _ id is) in
    let same : id ≡ entry.id = cc in
    let P : SwitchId → Type 0 = λ i. (1 ≤ i.0) × (i.0 < 2 ^ 48) in
    subst P same (id_if-range z id number)

link_entry-is : (k : ℕ) (before : List LinkEntry) (found : Members) (entry : LinkEntry) → link_entry k before found ≡ Ok entry → NamesSwitches k entry
unfolding link_entry
link_entry-is k before found entry given =
    let (a, named, rest) = bind_ok (or_refused (switch_at k key.A found) (error.BadValue key.A)) _ entry given in
    let (u, fresh, rest2) = bind_ok (refused_if (is_again a (switch_at k key.B found) before) (error.BadValue key.A)) _ entry rest in
    let (port_a, is_a, rest3) = bind_ok (or_refused (integer_at key.PortA found) (error.BadValue key.PortA)) _ entry rest2 in
    let (b, named_b, rest4) = bind_ok (or_refused (switch_at k key.B found) (error.BadValue key.B)) _ entry rest3 in
    let (port_b, is_b, made) = bind_ok (or_refused (integer_at key.PortB found) (error.BadValue key.PortB)) _ entry rest4 in
    let first : a ≡ entry.a = cc in
    let second : b ≡ entry.b = cc in
    let P : SwitchNo → Type 0 = λ s. s.0 < switch_count k in (
      subst P first (switch_at-below k key.A found a (or_refused_ok _ _ a named)),
      subst P second (switch_at-below k key.B found b (or_refused_ok _ _ b named_b)),
    )

made_host : (made entry : HostEntry) → (let r : Result HostEntry TopologyError = Ok made in r ≡ Ok entry) → made ≡ entry
made_host made entry is = cc

-- what a host table says is of one host at an edge switch
pub record IsHostEntry (k : ℕ) (host : HostEntry) : Type 0 where
  pub named : IsTrue (is_name host.name)
  pub at_edge : host.edge.0 < edge_count k
  pub of_one_mac : IsHostMac host.mac
  pub of_one_ip : IsHostIp host.ip

host_entry-is : (k : ℕ) (found : Members) (entry : HostEntry) → host_entry k found ≡ Ok entry → IsHostEntry k entry
unfolding host_entry
host_entry-is k found entry given =
    let (name, of_text, rest) = bind_ok (or_refused (option_and_then name_if (text_at key.Name found)) (error.BadValue key.Name)) _ entry given in
    let (mac, is_mac, rest2) = bind_ok (or_refused (option_and_then mac_of_text (text_at key.Mac found)) (error.BadValue key.Mac)) _ entry rest in
    let (ip, is_ip, rest3) = bind_ok (or_refused (option_and_then ip_of_text (text_at key.Ip found)) (error.BadValue key.Ip)) _ entry rest2 in
    let (edge, is_edge, rest4) = bind_ok (or_refused (option_and_then (edge_if k) (switch_at k key.Edge found)) (error.BadValue key.Edge)) _ entry rest3 in
    let (port, is_port, rest5) = bind_ok (or_refused (integer_at key.Port found) (error.BadValue key.Port)) _ entry rest4 in
    let (capture, is_capture, made) = bind_ok (or_refused (capture_of (value_at key.Capture found)) (error.BadValue key.Capture)) _ entry rest5 in
    let same = made_host (record { name = name; mac = mac; ip = ip; edge = edge; port = port; capture = capture }) entry made in
    let (mac_text, mac_there, mac_read) = and_then_some mac_of_text (text_at key.Mac found) mac (or_refused_ok _ _ mac is_mac) in
    let (ip_text, ip_there, ip_read) = and_then_some ip_of_text (text_at key.Ip found) ip (or_refused_ok _ _ ip is_ip) in
    let (name_text, name_there, name_read) = and_then_some name_if (text_at key.Name found) name (or_refused_ok _ _ name of_text) in
    let (name_fit, name_is) = cond_some (is_name name_text) name_text name name_read in
    let N : List ℕ → Type 0 = λ text. IsTrue (is_name text) in
    let (switch, named, low) = and_then_some (edge_if k) (switch_at k key.Edge found) edge (or_refused_ok _ _ edge is_edge) in
    let (below, is) = cond_some (ltb switch.0 (edge_count k)) switch edge low in
    let P : SwitchNo → Type 0 = λ s. s.0 < edge_count k in
    subst (IsHostEntry k) same (record {
      named = subst N name_is name_fit;
      at_edge = subst P is (ltb-true switch.0 (edge_count k) below);
      of_one_mac = mac_of_text-one mac_text mac mac_read;
      of_one_ip = ip_of_text-one ip_text ip ip_read;
    })

switches_are : (k : ℕ) (document : Members) (entries : List SwitchEntry) → switch_entries k document ≡ Ok entries → All IsSwitchEntry entries
unfolding switch_entries
switches_are k document entries given =
    let (tables, listed, read) = bind_ok (or_refused (tables_at key.Switch document) (error.BadValue key.Switch)) (λ tables. all_beside (switch_entry k) [] tables) entries given in
    all_beside-All IsSwitchEntry (switch_entry k) (switch_entry-is k) [] tables entries (All-nil IsSwitchEntry) read

links_are : (k : ℕ) (document : Members) (entries : List LinkEntry) → link_entries k document ≡ Ok entries → All (NamesSwitches k) entries
unfolding link_entries
links_are k document entries given =
    let (tables, listed, read) = bind_ok (or_refused (tables_at key.Link document) (error.BadValue key.Link)) (λ tables. all_beside (link_entry k) [] tables) entries given in
    all_beside-All (NamesSwitches k) (link_entry k) (link_entry-is k) [] tables entries (All-nil (NamesSwitches k)) read

hosts_are : (k : ℕ) (document : Members) (entries : List HostEntry) → host_entries k document ≡ Ok entries → All (IsHostEntry k) entries
unfolding host_entries
hosts_are k document entries given =
    let (tables, listed, read) = bind_ok (or_refused (tables_at key.Host document) (error.BadValue key.Host)) (λ tables. all_beside (λ _. host_entry k) [] tables) entries given in
    all_beside-All (IsHostEntry k) (λ _. host_entry k) (λ before t y is. host_entry-is k t y is) [] tables entries (All-nil (IsHostEntry k)) read

-- what the entries of a file are
pub record Are (k : ℕ) (e : Entries) : Type 0 where
  pub switches : All IsSwitchEntry e.switches
  pub links : All (NamesSwitches k) e.links
  pub hosts : All (IsHostEntry k) e.hosts

pub entries_are : (k : ℕ) (document : Members) (e : Entries) → entries_of k document ≡ Ok e → Are k e
unfolding entries_of
entries_are k document e given =
    let (switches, first, rest) = bind_ok (switch_entries k document) _ e given in
    let (links, second, rest2) = bind_ok (link_entries k document) _ e rest in
    let (hosts, third, made) = bind_ok (host_entries k document) _ e rest2 in
    let s : switches ≡ e.switches = cc in
    let l : links ≡ e.links = cc in
    let h : hosts ≡ e.hosts = cc in
    record {
      switches = subst (λ (xs : List SwitchEntry). All IsSwitchEntry xs) s (switches_are k document switches first);
      links = subst (λ (xs : List LinkEntry). All (NamesSwitches k) xs) l (links_are k document links second);
      hosts = subst (λ (xs : List HostEntry). All (IsHostEntry k) xs) h (hosts_are k document hosts third);
    }

pub hosts_in_range : (k : ℕ) (e : Entries) → Are k e → All (HasEdge k) e.hosts
hosts_in_range k e are i d within = let low = (are.hosts i d within).at_edge in omega arith

-- the tests of the `switch` tables
id_differs : (before : List SwitchEntry) (entry : SwitchEntry) → id_is_new before entry ≡ Ok tt → list_any (has_id entry.id) before ≡ false
unfolding id_is_new
id_differs before entry passed = refused_if_ok (list_any (has_id entry.id) before) (error.DoubleId entry.id) tt passed

-- what each passes beside the front, and beside those before it
pub front_pass : {A : Type 0} (check : List A → A → Result ⊤ TopologyError) (p : A → A → Bool) (step : (before : List A) (x : A) → check before x ≡ Ok tt → list_any (p x) before ≡ false)
    (front xs : List A) → each_beside check front xs ≡ Ok tt → All (λ x. list_any (p x) front ≡ false) xs
front_pass check p step front [] passed = All-nil (λ x. list_any (p x) front ≡ false)
front_pass check p step front (x ∷ xs) passed =
    let (u, first, rest) = bind_ok (check front x) (λ _. each_beside check (front ++ x ∷ []) xs) tt passed in
    let after = front_pass check p step (front ++ x ∷ []) xs rest in
    All-cons (λ x. list_any (p x) front ≡ false) x xs (step front x first) (λ i d within. (none_of_both (p (get_or xs i d)) front (x ∷ []) (after i d within)).0)

pub pairs_pass : {A : Type 0} (check : List A → A → Result ⊤ TopologyError) (p : A → A → Bool) (step : (before : List A) (x : A) → check before x ≡ Ok tt → list_any (p x) before ≡ false)
    (front xs : List A) → each_beside check front xs ≡ Ok tt → AllPairs (λ x y. p y x ≡ false) xs
pairs_pass check p step front [] passed = AllPairs-none (λ x y. p y x ≡ false)
pairs_pass check p step front (x ∷ xs) passed =
    let (u, first, rest) = bind_ok (check front x) (λ _. each_beside check (front ++ x ∷ []) xs) tt passed in
    let after = front_pass check p step (front ++ x ∷ []) xs rest in
    AllPairs-cons (λ x y. p y x ≡ false) x xs
    (λ i d within. none_at (p (get_or xs i d)) (x ∷ []) (none_of_both (p (get_or xs i d)) front (x ∷ []) (after i d within)).1 0 x (omega arith))
    (pairs_pass check p step (front ++ x ∷ []) xs rest)

differ_by : (m n : ℕ) → eqb m n ≡ false → m ≢ n
differ_by m n other same = false≢true (sym other ∙ (Decides-eqb m n).1 same)

pub agree_ids : (k : ℕ) (given : List SwitchEntry) → All IsSwitchEntry given → ids_differ k given ≡ Ok tt → AgreeIds k given
agree_ids k given are passed = record {
  in_range = are;
  free = front_pass id_is_new (λ e. has_id e.id) id_differs (kept_ids k given) given passed;
  apart = λ i j d less within same.
      let pair = pairs_pass id_is_new (λ e. has_id e.id) id_differs (kept_ids k given) given passed i j d less within in
      differ_by (get_or given i d).id.0 (get_or given j d).id.0 pair same;
}

-- the tests of the `host` tables
name_differs : (before : List HostEntry) (host : HostEntry) → name_is_new before host ≡ Ok tt → list_any (is_called host.name) before ≡ false
unfolding name_is_new
name_differs before host passed = refused_if_ok (list_any (is_called host.name) before) (error.DoubleHost host.name) tt passed

addresses_differ_by : (before : List HostEntry) (host : HostEntry) → addresses_are_new before host ≡ Ok tt → (list_any (has_mac host.mac.0) before ≡ false) × (list_any (has_ip host.ip.0) before ≡ false)
unfolding addresses_are_new
addresses_differ_by before host passed =
    or_parts (list_any (has_mac host.mac.0) before) (list_any (has_ip host.ip.0) before)
    (refused_if_ok (list_any (has_mac host.mac.0) before || list_any (has_ip host.ip.0) before) (error.DoubleAddress host.name) tt passed)

texts_differ : (xs ys : List ℕ) → bytes_eq xs ys ≡ false → xs ≢ ys
texts_differ xs ys other same = false≢true (sym other ∙ (bytes_eq-Decides xs ys).1 same)

-- what the ports' test tells
ports_agree : (k : ℕ) (links : List LinkEntry) (hosts : List HostEntry) → ports_differ k links hosts ≡ Ok tt →
    (each_beside (port_is_free k) (kept_uses k links) (flat_map (link_uses k) links) ≡ Ok tt) × (each_beside (port_is_free k) (uses_of_links k links) (flat_map host_uses hosts) ≡ Ok tt)
unfolding ports_differ
ports_agree k links hosts passed =
    let (u, first, rest) = bind_ok (each_beside (port_is_free k) (kept_uses k links) (flat_map (link_uses k) links)) _ tt passed in (first, rest)

pub agree_hosts : (k : ℕ) (links : List LinkEntry) (hosts : List HostEntry) → All (IsHostEntry k) hosts → names_differ hosts ≡ Ok tt → addresses_differ hosts ≡ Ok tt → ports_differ k links hosts ≡ Ok tt → AgreeHosts k links hosts
agree_hosts k links hosts are names addresses ports =
    let passed = (ports_agree k links hosts ports).1 in
    record {
      named = All-weaker (IsHostEntry k) (λ h. IsTrue (is_name h.name)) hosts (λ h is. is.named) are;
      edges = All-weaker (IsHostEntry k) (λ h. h.edge.0 < edge_count k) hosts (λ h is. is.at_edge) are;
      of_one_mac = All-weaker (IsHostEntry k) (λ h. IsHostMac h.mac) hosts (λ h is. is.of_one_mac) are;
      of_one_ip = All-weaker (IsHostEntry k) (λ h. IsHostIp h.ip) hosts (λ h is. is.of_one_ip) are;
      names = λ i j d less within same.
          let pair = pairs_pass name_is_new (λ h. is_called h.name) name_differs [] hosts names i j d less within in
          texts_differ (get_or hosts i d).name (get_or hosts j d).name pair same;
      macs = λ i j d less within same.
          let pair = pairs_pass addresses_are_new (λ h. has_mac h.mac.0) (λ before h is. (addresses_differ_by before h is).0) [] hosts addresses i j d less within in
          texts_differ (get_or hosts i d).mac.0 (get_or hosts j d).mac.0 pair (ap (λ (m : Mac). m.0) same);
      ips = λ i j d less within same.
          let pair = pairs_pass addresses_are_new (λ h. has_ip h.ip.0) (λ before h is. (addresses_differ_by before h is).1) [] hosts addresses i j d less within in
          differ_by (get_or hosts i d).ip.0 (get_or hosts j d).ip.0 pair (ap (λ (n : Ip4). n.0) same);
      free = groups_free k host_uses (uses_of_links k links) hosts passed;
      apart = groups_apart k host_uses (uses_of_links k links) hosts passed;
    }

adjacent_by : (k : ℕ) (entry : LinkEntry) → joins_the_tree k entry ≡ Ok tt → are_adjacent k entry.a entry.b ≡ true
unfolding joins_the_tree
adjacent_by k entry passed = not-false (are_adjacent k entry.a entry.b) (refused_if_ok (not (are_adjacent k entry.a entry.b)) (error.NotFatTree (label_of k entry.a.0) (label_of k entry.b.0)) tt passed)

pub agree_links : (k : ℕ) (links : List LinkEntry) (hosts : List HostEntry) → ports_differ k links hosts ≡ Ok tt → each (joins_the_tree k) links ≡ Ok tt → Agree k links
agree_links k links hosts ports adjacent =
    let passed = (ports_agree k links hosts ports).0 in
    let free = groups_free k (link_uses k) (kept_uses k links) links passed in
    record {
      fit = λ i d within.
          let e = get_or links i d in
          let u : PortUse = record { switch = e.a; port = e.port_a; counts = are_adjacent k e.a e.b } in
          ((free i d within 0 u (omega arith)).there, (free i d within 1 u (omega arith)).there);
      adjacent = each-All (λ e. are_adjacent k e.a e.b ≡ true) (joins_the_tree k) (adjacent_by k) links adjacent;
      free = free;
      apart = groups_apart k (link_uses k) (kept_uses k links) links passed;
    }

-- the plan of entries that agree
pub record Agrees (k : ℕ) (e : Entries) : Type 0 where
  pub ids : AgreeIds k e.switches
  pub links : Agree k e.links
  pub hosts : AgreeHosts k e.links e.hosts

pub agrees : (k : ℕ) (document : Members) (e : Entries) → entries_of k document ≡ Ok e → ids_differ k e.switches ≡ Ok tt → names_differ e.hosts ≡ Ok tt → addresses_differ e.hosts ≡ Ok tt →
    ports_differ k e.links e.hosts ≡ Ok tt → each (joins_the_tree k) e.links ≡ Ok tt → Agrees k e
agrees k document e read ids names addresses ports adjacent =
    let are = entries_are k document e read in
    record {
      ids = agree_ids k e.switches are.switches ids;
      links = agree_links k e.links e.hosts ports adjacent;
      hosts = agree_hosts k e.links e.hosts are.hosts names addresses ports;
    }

pub plan_of_entries-IsPlan : (k : ℕ) (e : Entries) → IsArity k → Agrees k e → IsPlan (plan_of_entries k e)
plan_of_entries-IsPlan k e arity agree = record {
  arity = arity;
  tree = links_of-IsFatTree k e.links arity agree.links;
  in_order = links_of-order k e.links;
  ids_many = ids_of-length k e.switches;
  ids_in_range = ids_of-in_range k e.switches arity agree.ids;
  ids_apart = ids_of-apart k e.switches agree.ids;
  at_edges = hosts_at_edges k e.links e.hosts agree.hosts;
  at_free_ports = hosts_at_free_ports k e.links e.hosts arity agree.links agree.hosts;
  ports_apart = hosts_places_apart k e.links e.hosts agree.hosts;
  host_macs = All-map (λ h. IsHostMac h.mac) host_of e.hosts agree.hosts.of_one_mac;
  host_ips = All-map (λ h. IsHostIp h.ip) host_of e.hosts agree.hosts.of_one_ip;
  names = All-map (λ h. IsTrue (is_name h.name)) host_of e.hosts agree.hosts.named;
  names_apart = hosts_names_apart k e.links e.hosts agree.hosts;
  macs_apart = hosts_macs_apart k e.links e.hosts agree.hosts;
  ips_apart = hosts_ips_apart k e.links e.hosts agree.hosts;
  few_hosts = rw length-map (few_hosts k e.links e.hosts arity agree.hosts);
}

arity_if-IsArity : (z : ℤ) (k : ℕ) → arity_if z ≡ Some k → IsArity k
arity_if-IsArity (pos n) k is =
    let (test, same) = cond_some (leb 4 n && leb n 24 && eqb (n % 2) 0) n k is in
    let (range, even) = and_parts (leb 4 n && leb n 24) (eqb (n % 2) 0) test in
    let (low, high) = and_parts (leb 4 n) (leb n 24) range in
    let whole : IsArity n = record { even = eqb-true (n % 2) 0 even; least = leb-true 4 n low; most = leb-true n 24 high } in
    subst IsArity same whole
arity_if-IsArity (negsuc n) k is = cc

pub arity_of-IsArity : (document : Members) (k : ℕ) → arity_of document ≡ Some k → IsArity k
arity_of-IsArity document k is =
    let (z, read, found) = and_then_some arity_if (option_and_then as_integer (get_member (codes "k") document)) k is in
    arity_if-IsArity z k found
