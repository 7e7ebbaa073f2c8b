-- `survey::survey_circuit` meets its contract: what each stage may be asked, and what follows where the records are too few and where they are enough.
-- Assumes nothing.
use mathlib.Core.Path.{subst}
use lib.ListN.{length}
use Rattle.circuit.specs.WellFormed.{HeadOf}
use Rattle.source.specs.Source.{head_of, sourced}
use Rattle.source.proofs.Sources.{well}
use Rattle.survey.specs.Survey.{ShapeOf}
use Rattle.survey.proofs.Surveying.{shapeable, layable, buildable, refused, explorable, surveyed}
use Rattle.survey.proofs.survey_circuit.Goals as goal

pub shape_of-shape-requires : goal.shape_of-shape-requires
shape_of-shape-requires c =
    let O : HeadOf (sourced c.args.source c.args.circuit.now) (head_of c.args.source) = (well _ _ c.requires.0).head_is in
    shapeable (sourced c.args.source c.args.circuit.now) _ _ c.requires.1 (head_of c.args.source) O

pub build-requires : goal.build-requires
build-requires c =
    let O : HeadOf (sourced c.args.source c.args.circuit.now) (head_of c.args.source) = (well _ _ c.requires.0).head_is in
    let shape : ShapeOf (head_of c.args.source) (length c.args.nodes.now) c.shape_of-shape.result = subst (λ n. ShapeOf (head_of c.args.source) n c.shape_of-shape.result) c.clear.auto.nodes c.shape_of-shape.ensures in
    (c.requires.0, buildable (sourced c.args.source c.args.circuit.now) _ _ c.requires.1 (head_of c.args.source) O (length c.args.nodes.now) _ shape c.clear.new.nodes c.clear.auto.nodes c.clear.ensures)

pub returns-in_err-build : goal.returns-in_err-build
returns-in_err-build c =
    let O : HeadOf (sourced c.args.source c.args.circuit.now) (head_of c.args.source) = (well _ _ c.requires.0).head_is in
    let shape : ShapeOf (head_of c.args.source) (length c.args.nodes.now) c.shape_of-shape.result = subst (λ n. ShapeOf (head_of c.args.source) n c.shape_of-shape.result) c.clear.auto.nodes c.shape_of-shape.ensures in
    refused (sourced c.args.source c.args.circuit.now) _ _ c.requires.1 (head_of c.args.source) O (length c.args.nodes.now) _ shape c.build.new.nodes c.build.new.work _ c.in_err-build.ensures _ c.from_residual.ensures.1

pub layout_of-requires : goal.layout_of-requires
layout_of-requires c =
    let O : HeadOf (sourced c.args.source c.args.circuit.now) (head_of c.args.source) = (well _ _ c.requires.0).head_is in
    layable (sourced c.args.source c.args.circuit.now) _ _ c.requires.1 (head_of c.args.source) O

pub explore-cursor-requires : goal.explore-cursor-requires
explore-cursor-requires c =
    let O : HeadOf (sourced c.args.source c.args.circuit.now) (head_of c.args.source) = (well _ _ c.requires.0).head_is in
    let shape : ShapeOf (head_of c.args.source) (length c.args.nodes.now) c.shape_of-shape.result = subst (λ n. ShapeOf (head_of c.args.source) n c.shape_of-shape.result) c.clear.auto.nodes c.shape_of-shape.ensures in
    explorable (sourced c.args.source c.args.circuit.now) _ _ c.requires.1 (head_of c.args.source) O (length c.args.nodes.now) _ shape c.build.new.nodes c.build.new.work _ c.in_ok-build.ensures _ c.layout_of.ensures c.build.auto.work

pub returns : goal.returns
returns c =
    let O : HeadOf (sourced c.args.source c.args.circuit.now) (head_of c.args.source) = (well _ _ c.requires.0).head_is in
    let shape : ShapeOf (head_of c.args.source) (length c.args.nodes.now) c.shape_of-shape.result = subst (λ n. ShapeOf (head_of c.args.source) n c.shape_of-shape.result) c.clear.auto.nodes c.shape_of-shape.ensures in
    surveyed (sourced c.args.source c.args.circuit.now) _ _ c.requires.1 (head_of c.args.source) O (length c.args.nodes.now) _ shape c.build.new.nodes c.build.new.work _ c.in_ok-build.ensures _ c.layout_of.ensures c.build.auto.work _ _ _ c.explore-cursor.ensures
