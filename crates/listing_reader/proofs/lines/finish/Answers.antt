use Rattle.listing_reader.proofs.Facts.ParseCases.{end_due, end_asked}
use Rattle.listing_reader.specs.Listing.{at_end}
use Rattle.listing_reader.specs.Contents.{parsed_of}
use Rattle.listing_reader.proofs.lines.finish.Goals as goal

pub returns-in-Calls : goal.returns-in-Calls
returns-in-Calls c t w k h g = search (end_due, end_asked)

pub returns-in-Names : goal.returns-in-Names
unfolding parsed_of at_end
returns-in-Names c t w k h g = search end_due

pub returns-in-Numbers : goal.returns-in-Numbers
unfolding parsed_of at_end
returns-in-Numbers c t w k h g = search end_due

pub returns-in-Columns : goal.returns-in-Columns
unfolding parsed_of at_end
returns-in-Columns c t w k h g = search end_due

pub returns-in-Entries : goal.returns-in-Entries
unfolding parsed_of at_end
returns-in-Entries c t w k h g = search end_due

pub returns-in-Word : goal.returns-in-Word
unfolding parsed_of at_end
returns-in-Word c t w k h g = search end_due

pub returns-in-Heading : goal.returns-in-Heading
unfolding parsed_of at_end
returns-in-Heading c t w k h g = search end_due
