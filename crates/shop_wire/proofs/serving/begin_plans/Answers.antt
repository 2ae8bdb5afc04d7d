use Rattle.std.proofs.Common.{append-nil}
use Rattle.shop_request.specs.declared.routes.Route.TheVariants.{Plans}
use Rattle.shop_wire.specs.AnswerBytes.{answer_bytes, response_answer}
use Rattle.shop_wire.specs.Responses.{response_of}
use Rattle.shop_wire.proofs.Begun.{refused_reported}
use Rattle.shop_wire.proofs.serving.begin_plans.Goals as goal

pub returns-in-Ok-write_made-clause-answered : goal.returns-in-Ok-write_made-clause-answered
returns-in-Ok-write_made-clause-answered g c = λ e.
    let response = response_of c.refused.result in
    let whole = answer_bytes (response_answer Plans response) in
    record {
      response = response;
      bytes = whole;
      reported = append-nil whole;
      written = c.in-Ok-write_made.ensures.ok whole c.reported_text.ensures;
      run = record {
        run = refused_reported g.B.Book c.args.book.now c.build_body.new.book c.args.body.now c.in-Err.refusal response c.refused.ensures.reported c.in-Err.ensures.refused;
        keeps = λ clean_disk m held nothing. c.build_body.ensures.keeps.stays clean_disk m held;
      };
    }

pub returns-in-Err-write_made-clause-err : goal.returns-in-Err-write_made-clause-err
returns-in-Err-write_made-clause-err g c =
    let response = response_of c.refused.result in
    let part = c.in-Err-write_made.ensures.err (answer_bytes (response_answer Plans response)) c.reported_text.ensures in (
      part.1,
      record {
        response = response;
        bytes = part.0;
        reported = part.2;
        written = part.3;
        run = record {
          run = refused_reported g.B.Book c.args.book.now c.build_body.new.book c.args.body.now c.in-Err.refusal response c.refused.ensures.reported c.in-Err.ensures.refused;
          keeps = λ clean_disk m held nothing. c.build_body.ensures.keeps.stays clean_disk m held;
        };
      },
    )
