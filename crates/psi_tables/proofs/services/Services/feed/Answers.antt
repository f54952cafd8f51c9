use Rattle.std.proofs.Common.{◌≡◌, false, eqb, sym, ◌∙◌}
use Rattle.std.proofs.lemmas.Bool.{eq-eqb, ne_eqb}
use Rattle.psi_tables.proofs.HistoryLemmas.{stands_as, stands_unread, stands_if_ok, pat_is_after, pmt_is_after, read_on}
use Rattle.psi_tables.proofs.services.Services.feed.Goals as goal

pub returns-then-not-reads_table-clause-stands : goal.returns-then-not-reads_table-clause-stands
returns-then-not-reads_table-clause-stands c =
    λ history is. stands_unread c.args.self.now history c.args.pid c.args.section.now (sym c.reads_table.ensures ∙ c.if-not-reads_table.true) is

pub returns-then-pid-eq-PAT_PID-clause-stands : goal.returns-then-pid-eq-PAT_PID-clause-stands
returns-then-pid-eq-PAT_PID-clause-stands c =
    λ history is. stands_as c.args.self.now c.feed_pat.new.self history (record { pid = c.args.pid; section = c.args.section.now })
    (c.in_ok-feed_pat.ensures.ok ∙ pat_is_after c.args.self.now c.args.pid c.args.section.now (eq-eqb c.args.pid 0 c.if-pid-eq-PAT_PID.true)) is

pub returns-clause-stands : goal.returns-clause-stands
returns-clause-stands c =
    let other : eqb c.args.pid 0 ≡ false = ne_eqb c.args.pid 0 c.if-pid-eq-PAT_PID.false in
    let on = read_on c.args.self.now.selection c.args.self.now.service c.args.pid (sym c.reads_table.ensures ∙ c.if-not-reads_table.false) other in
    stands_if_ok c.feed_pmt.result c.feed_pmt.ensures.ok
    (λ e history is. stands_as c.args.self.now c.feed_pmt.new.self history (record { pid = c.args.pid; section = c.args.section.now }) (e ∙ pmt_is_after c.args.self.now c.args.pid c.args.section.now other on) is)
