-- `simulate::simulate` meets its contract: each return is an outcome of the definition.
-- Assumes nothing.
use mathlib.Core.Path.{sym}
use native.Mathlib.Omega.{arith}
use Rattle.circuit.proofs.Accepted.{well_formed, accepted}
use Rattle.simulate.proofs.Simulation.{refused_circuit, refused_sequences, sequences_fed, accepted_all}
use Rattle.simulate.proofs.simulate.Goals as goal

pub returns-in_err-check : goal.returns-in_err-check
returns-in_err-check c =
    let o = refused_circuit c.args.circuit.now c.args.count c.args.words.now c.args.res.now _ _ c.from_residual.ensures.1 c.in_err-check.ensures.verdict in
    record { verdict = o.0; res = o.1.0; alone = o.1.1 }

pub read-head-requires : goal.read-head-requires
read-head-requires c = (accepted _ _ (sym c.in_ok-check.ensures.verdict)).form.head

pub check_sequences-requires : goal.check_sequences-requires
check_sequences-requires c = omega (arith, (accepted _ _ (sym c.in_ok-check.ensures.verdict)).form.sizes, c.read-head.ensures)

pub returns-in_err-written : goal.returns-in_err-written
returns-in_err-written c =
    let o = refused_sequences c.args.circuit.now c.args.count c.args.words.now c.args.res.now _ c.in_ok-check.ensures.verdict _ c.read-head.ensures
    _ _ c.from_residual-in_err-written.ensures.1 c.in_err-written.ensures in
    record { verdict = o.0; res = o.1.0; alone = o.1.1 }

pub write_outputs-requires : goal.write_outputs-requires
write_outputs-requires c =
    let f = sequences_fed c.args.circuit.now c.args.count c.args.words.now c.args.res.now _ c.in_ok-check.ensures.verdict _ c.read-head.ensures
    _ c.in_ok-written.ensures in
    record {
      well_formed = well_formed (accepted _ _ (sym c.in_ok-check.ensures.verdict)).form c.read-head.ensures;
      count_le_most_sequences = (f.few, f.roomy);
      fed = f.all_words;
    }

pub returns : goal.returns
returns c =
    let o = accepted_all c.args.circuit.now c.args.count c.args.words.now c.args.res.now _ c.in_ok-check.ensures.verdict _ c.read-head.ensures
    _ c.in_ok-written.ensures c.write_outputs.new.res c.write_outputs.ensures in
    record { verdict = o.0; res = o.1.0; alone = o.1.1 }
