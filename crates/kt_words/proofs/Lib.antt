mod Growing
mod Tables
