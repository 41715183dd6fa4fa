use Rattle.dag_build.proofs.BuiltDags.{laid_out}
use Rattle.geode_tool.proofs.BuildAnswers.{mesh_refused}
use Rattle.geode_tool.proofs.build_command.built_dag.Goals as goal

pub lay_out-requires : goal.lay_out-requires
lay_out-requires g c = record {
  rules = laid_out c.in_ok-tris.tris.items c.in_ok-dag.dag c.in_ok-tris.ensures.sound c.in_ok-dag.ensures.built;
}

pub returns-clause-built : goal.returns-clause-built
returns-clause-built g c = record {
  tris = c.in_ok-tris.tris.items;
  listed = c.in_ok-tris.ensures.listed;
  dag = c.in_ok-dag.dag;
  built = c.in_ok-dag.ensures.built;
  on_pages = c.in_ok-lay_out.ensures.dag;
}

pub returns-in_err-tris-clause-refused : goal.returns-in_err-tris-clause-refused
returns-in_err-tris-clause-refused g c =
    mesh_refused _ _ _ _ _ c.in_err-tris.field-0.0 c.from_residual.ensures c.in_err-tris.ensures.refused
    c.in_err-tris.ensures.read_up_to
