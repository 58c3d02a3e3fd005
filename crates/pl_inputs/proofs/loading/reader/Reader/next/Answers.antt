use Rattle.std.proofs.Common.{rules, Err}
use Rattle.pl_inputs.proofs.Reading.{libpcap_in, pcapng_in, read_by_records, refused_by_sections, ended_by_records, ended_by_sections, found_by_sections}
use Rattle.pl_inputs.proofs.loading.reader.Reader.next.Goals as goal

-- src/loading/reader.rt:48:44
pub returns-in_err-next-in-Libpcap-clause-refused : goal.returns-in_err-next-in-Libpcap-clause-refused
returns-in_err-next-in-Libpcap-clause-refused c =
    let file = c.args.file.now in
    let read = libpcap_in file c.args.self.now c.in-Libpcap.records c.in-Libpcap.is c.requires.0 c.requires.1 in
    let is = read_by_records file (Err c.in_err-next-in-Libpcap.field-0.0) read.0 (c.in_err-next-in-Libpcap.ensures.refused c.requires.0 read.1) in
    search rules

-- src/loading/reader.rt:49:44
pub returns-in_err-next-in-Pcapng-clause-refused : goal.returns-in_err-next-in-Pcapng-clause-refused
returns-in_err-next-in-Pcapng-clause-refused c =
    let file = c.args.file.now in
    let read = pcapng_in file c.args.self.now c.in-Pcapng.sections c.in-Pcapng.is c.requires.0 c.requires.1 in
    let is = refused_by_sections file c.in_err-next-in-Pcapng.field-0.0 read.0 (c.in_err-next-in-Pcapng.ensures.refused c.requires.0 read.1) in
    search rules

-- src/loading/reader.rt:34:5
pub returns-in_ok-next-in-Libpcap-clause-ended : goal.returns-in_ok-next-in-Libpcap-clause-ended
returns-in_ok-next-in-Libpcap-clause-ended c = λ records has.
    let file = c.args.file.now in
    let read = libpcap_in file c.args.self.now c.in-Libpcap.records c.in-Libpcap.is records has in
    ended_by_records file records c.in_ok-next-in-Libpcap.field-0 c.next.new.self read.0 (c.in_ok-next-in-Libpcap.ensures.ended records read.1)

-- src/loading/reader.rt:34:5
pub returns-in_ok-next-in-Pcapng-clause-found : goal.returns-in_ok-next-in-Pcapng-clause-found
returns-in_ok-next-in-Pcapng-clause-found c = λ records has.
    let file = c.args.file.now in
    let read = pcapng_in file c.args.self.now c.in-Pcapng.sections c.in-Pcapng.is records has in
    found_by_sections file records c.in_ok-next-in-Pcapng.field-0 c.next-in-Pcapng.new.self read.0 (c.in_ok-next-in-Pcapng.ensures.found records read.1)

-- src/loading/reader.rt:34:5
pub returns-in_ok-next-in-Pcapng-clause-ended : goal.returns-in_ok-next-in-Pcapng-clause-ended
returns-in_ok-next-in-Pcapng-clause-ended c = λ records has.
    let file = c.args.file.now in
    let read = pcapng_in file c.args.self.now c.in-Pcapng.sections c.in-Pcapng.is records has in
    ended_by_sections file records c.in_ok-next-in-Pcapng.field-0 c.next-in-Pcapng.new.self read.0 (c.in_ok-next-in-Pcapng.ensures.ended records read.1)
