use Rattle.std.proofs.Common.{length, ap, arith}
use Rattle.shape_gen.proofs.FaceLaws.{length-faces}
use Rattle.shape_gen.proofs.LatticeLaws.{lattice-ascending, lattice-places}
use Rattle.shape_gen.proofs.LatticeSize.{length-lattice}
use Rattle.shape_gen.proofs.texts.box_text.Goals as goal

pub overflow_mul-room : goal.overflow_mul-room
overflow_mul-room c =
    omega (
      arith,
      c.len.ensures,
      c.in_ok-places.places.ok,
      ap length c.in_ok-places.ensures,
      length-lattice c.args.n c.requires.size_range,
    )

pub overflow_add-room : goal.overflow_add-room
overflow_add-room c =
    omega (
      arith,
      c.len.ensures,
      c.len-2.ensures,
      ap length c.in_ok-places.ensures,
      ap length c.in_ok-faces.ensures,
      length-lattice c.args.n c.requires.size_range,
      length-faces c.args.n c.requires.size_range,
    )

pub push_vertices-requires : goal.push_vertices-requires
push_vertices-requires c =
    record {
      place_range = rw (c.deref.ensures.value, c.in_ok-places.ensures)
          (lattice-places c.args.n c.requires.size_range);
    }

pub push_faces-requires-clause-ascending : goal.push_faces-requires-clause-ascending
push_faces-requires-clause-ascending c =
    rw (c.deref-2.ensures.value, c.in_ok-places.ensures) (lattice-ascending c.args.n)

pub push_faces-requires-clause-place_limit : goal.push_faces-requires-clause-place_limit
push_faces-requires-clause-place_limit c =
    rw (c.deref-2.ensures.value, c.in_ok-places.ensures) (omega (arith, length-lattice c.args.n c.requires.size_range))
